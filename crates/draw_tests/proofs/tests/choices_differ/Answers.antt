-- Each test is one of the definition.
-- Assumes nothing.
use mathlib.Core.Path.{◌≡◌, sym, ap, ◌∙◌}
use mathlib.Core.Bool.{not, ◌||◌}
use Prim.Native.Nat.{◌+◌, ◌*◌}
use native.Mathlib.Omega.{arith}
use borrow.Author.Tests.{eq-eqb, ne_eqb}
use lib.Dec.{eqb}
use Rattle.trits.specs.Planes.{words_for}
use Rattle.scheme.specs.declared.sizes.Shape.{Shape}
use Rattle.scheme.specs.Sizes.{half, places, dim, codim}
use Rattle.calls.specs.Lent.{half_words, pair_differs}
use Rattle.calls.proofs.Bounds.{bounds, prod}
use Rattle.draw_tests.proofs.Space.{space, rows_are}
use Rattle.draw_tests.proofs.Lengths.{stays, decides, before_work, with_work}
use Rattle.draw_tests.proofs.tests.choices_differ.Goals.{Joined-pair_differs-5}
use Rattle.draw_tests.proofs.tests.choices_differ.Goals.{then-p-half, else-p-half, then-pair_differs, else-pair_differs}
use Rattle.draw_tests.proofs.tests.choices_differ.Goals.{then-pair_differs-2, else-pair_differs-2, then-pair_differs-3, else-pair_differs-3}
use Rattle.draw_tests.proofs.tests.choices_differ.Goals.{then-pair_differs-4, else-pair_differs-4, then-pair_differs-5, else-pair_differs-5}
use Rattle.draw_tests.proofs.tests.choices_differ.Goals as goal

-- what the tests up to those of s told
told : (c : Joined-pair_differs-5) → let a = c.args in c.if-pair_differs-5.value ≡
    before_work a.z.sizes a.p a.y1 a.y2 a.ov a.v1 a.v2 a.ou a.u1 a.u2 a.e1 a.e2 a.s1 a.s2
told c =
    let a = c.args in
    let z = a.z.sizes in
    let half_is = ap (λ (s : Shape). s.half) c.shape-shape.ensures in
    let ru_is = ap (λ (s : Shape). s.ru) c.shape-shape.ensures in
    let rv_is = ap (λ (s : Shape). s.rv) c.shape-shape.ensures in
    let places_are = ap (λ (s : Shape). s.half + s.half) c.shape-shape.ensures in
    let y_told : c.if-p-half.value ≡ (not (eqb a.p (places z)) || pair_differs (words_for (codim z)) a.y1 a.y2) =
    elim c.if-p-half.branch [
      | then-p-half w ↦ stays _ (ap not (ne_eqb _ _ (λ q. w.if-p-half.true (q ∙ sym places_are)))) (w.value-is ∙ ap not (ne_eqb _ _ w.if-p-half.true))
      | else-p-half w ↦ decides (ap not (eq-eqb _ _ (w.if-p-half.false ∙ places_are)))
          (w.value-is ∙ w.pair_differs.ensures ∙ ap (λ m. pair_differs m a.y1 a.y2)
          (omega (arith, w.div_ceil.ensures, ru_is, rv_is)))
    ] in
    let o_told : c.if-pair_differs.value ≡ (c.if-p-half.value || pair_differs (half z) a.ov a.ou) =
    elim c.if-pair_differs.branch [
      | then-pair_differs w ↦ stays _ w.if-pair_differs.true (w.value-is ∙ w.if-pair_differs.true)
      | else-pair_differs w ↦ decides w.if-pair_differs.false
          (w.value-is ∙ w.pair_differs-else-pair_differs.ensures ∙ ap (λ m. pair_differs m a.ov a.ou) half_is)
    ] in
    let v_told : c.if-pair_differs-2.value ≡ (c.if-pair_differs.value || pair_differs (words_for z.kv) a.v1 a.v2) =
    elim c.if-pair_differs-2.branch [
      | then-pair_differs-2 w ↦ stays _ w.if-pair_differs-2.true (w.value-is ∙ w.if-pair_differs-2.true)
      | else-pair_differs-2 w ↦ decides w.if-pair_differs-2.false
          (w.value-is ∙ w.pair_differs-else-pair_differs-2.ensures ∙ ap (λ m. pair_differs m a.v1 a.v2) (omega (arith, w.div_ceil-else-pair_differs-2.ensures)))
    ] in
    let u_told : c.if-pair_differs-3.value ≡ (c.if-pair_differs-2.value || pair_differs (words_for z.ku) a.u1 a.u2) =
    elim c.if-pair_differs-3.branch [
      | then-pair_differs-3 w ↦ stays _ w.if-pair_differs-3.true (w.value-is ∙ w.if-pair_differs-3.true)
      | else-pair_differs-3 w ↦ decides w.if-pair_differs-3.false
          (w.value-is ∙ w.pair_differs-else-pair_differs-3.ensures ∙ ap (λ m. pair_differs m a.u1 a.u2) (omega (arith, w.div_ceil-else-pair_differs-3.ensures)))
    ] in
    let e_told : c.if-pair_differs-4.value ≡ (c.if-pair_differs-3.value || pair_differs (words_for (places z)) a.e1 a.e2) =
    elim c.if-pair_differs-4.branch [
      | then-pair_differs-4 w ↦ stays _ w.if-pair_differs-4.true (w.value-is ∙ w.if-pair_differs-4.true)
      | else-pair_differs-4 w ↦ decides w.if-pair_differs-4.false
          (w.value-is ∙ w.pair_differs-else-pair_differs-4.ensures ∙ ap (λ m. pair_differs m a.e1 a.e2)
          (omega (arith, w.div_ceil-else-pair_differs-4.ensures, half_is)))
    ] in
    let s_told : c.if-pair_differs-5.value ≡ (c.if-pair_differs-4.value || pair_differs (words_for (dim z)) a.s1 a.s2) =
    elim c.if-pair_differs-5.branch [
      | then-pair_differs-5 w ↦ stays _ w.if-pair_differs-5.true (w.value-is ∙ w.if-pair_differs-5.true)
      | else-pair_differs-5 w ↦ decides w.if-pair_differs-5.false
          (w.value-is ∙ w.pair_differs-else-pair_differs-5.ensures ∙ ap (λ m. pair_differs m a.s1 a.s2)
          (omega (arith, w.div_ceil-else-pair_differs-5.ensures)))
    ] in
    rw (s_told, e_told, u_told, v_told, o_told, y_told)

pub overflow_add-ku : goal.overflow_add-ku
overflow_add-ku c =
    let b = bounds c.args.z.sizes c.args.z.fit in
    omega (arith, b.ku, b.kv, b.high)

pub overflow_mul-rows : goal.overflow_mul-rows
overflow_mul-rows c =
    let z = c.args.z.sizes in
    let b = bounds z c.args.z.fit in
    let rows = c.max-rows.ensures ∙ rows_are z c.shape-shape.ensures in
    let words = ap (λ (s : Shape). s.words) c.shape-shape.ensures in
    omega (
      arith,
      words,
      prod (c.max-rows.result + 248) c.shape-shape.result.words 8440 128 (omega (arith, rows, (space z b).rows)) (omega
          (arith, words, b.high)),
    )

pub returns-then-pair_differs-6 : goal.returns-then-pair_differs-6
returns-then-pair_differs-6 c =
    let e = told c.before in
    stays _ (sym e ∙ c.if-pair_differs-6.true) c.if-pair_differs-6.true ∙ with_work c.args.z.sizes _ _ _ _ _ _ _ _ _ _ _ _ _ _ _

pub returns-else-pair_differs-6 : goal.returns-else-pair_differs-6
returns-else-pair_differs-6 c =
    let e = told c.before.before.before in
    let z = c.args.z.sizes in
    let a = c.args in
    decides (sym e ∙ c.if-pair_differs-6.false)
    (c.pair_differs-else-pair_differs-6.ensures
    ∙ ap (λ (s : Shape). pair_differs ((c.max-rows.result + 248) * s.words) a.w1 a.w2) c.shape-shape.ensures
    ∙ ap (λ m. pair_differs ((m + 248) * half_words z) a.w1 a.w2)
    (c.max-rows.ensures ∙ rows_are z c.shape-shape.ensures))
    ∙ with_work z _ _ _ _ _ _ _ _ _ _ _ _ _ _ _
