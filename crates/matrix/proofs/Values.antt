-- The pivots' values by a matrix with 1 on the diagonal and 0 below: from the last row on, each row's product becomes 0. Assumes nothing.
use mathlib.Core.Path.{◌≡◌, refl, sym, ap, ap₂, ◌∙◌, fun_ext}
use mathlib.Core.Bool.{false, true≢false}
use mathlib.Core.List.{List}
use mathlib.Core.Option.{some}
use Prim.Native.Nat.{ℕ, zero, suc, ◌≤◌, ◌<◌}
use native.Mathlib.Decide.{ℕ_discrete}
use native.Mathlib.Omega.{arith}
use lib.ListN.{length, get_or}
use Rattle.trits.specs.Trit.{Trit, t0, t2, add_t, sub_t, mul_t, put_v, dot_v}
use Rattle.trits.proofs.Arithmetic.{law2, add_zero_r, add_neg}
use Rattle.matrix.specs.Linear.{Vector, Matrix, times, elem, solve}
use Rattle.matrix.specs.Passes.{Lowered}
use Rattle.matrix.specs.Steps.{backed}
use Rattle.matrix.proofs.Dots.{put_same, put_other, dot_add, dot_mul, dot_put}
use Rattle.matrix.proofs.Field.{law4}
use Rattle.matrix.proofs.Places.{elem_at}
use Rattle.matrix.proofs.Greedy.{Kept}
use Rattle.matrix.proofs.Solutions.{solve_is}
use Rattle.matrix.proofs.RowSpan.{span_alike}

times_sub : (n : ℕ) (A : Matrix) (x w : Vector) (c : ℕ) → times n A (λ q. sub_t (x q) (w q)) c ≡ sub_t (times n A x c) (times n A w c)
times_sub n A x w c = dot_add n (A c) x (λ q. mul_t t2 (w q)) ∙ ap (add_t (times n A x c)) (dot_mul n t2 (A c) w)

-- one place loses v
times_less : (n : ℕ) (A : Matrix) (u : Vector) (q : ℕ) (v : Trit) (i : ℕ) → q < n
    → times n A (put_v u q (sub_t (u q) v)) i ≡ sub_t (times n A u i) (mul_t (A i q) v)
times_less n A u q v i h =
    dot_put n (A i) (put_v u q (sub_t (u q) v)) q h
    ∙ ap₂ (λ (x : Trit) (w : Vector). add_t (mul_t (A i q) x) (dot_v (A i) w n)) (put_same u q (sub_t (u q) v)) (fun_ext (λ p. by p (ℕ_discrete p q)))
    ∙ law4 (λ a x v s. add_t (mul_t a (sub_t x v)) s) (λ a x v s. sub_t (add_t (mul_t a x) s) (mul_t a v)) tt (A i q) (u q) v (dot_v (A i) (put_v u q t0) n)
    ∙ ap (λ (x : Trit). sub_t x (mul_t (A i q) v)) (sym (dot_put n (A i) u q h))
  where
    by : (p : ℕ) → Dec (p ≡ q) → put_v (put_v u q (sub_t (u q) v)) q t0 p ≡ put_v u q t0 p
    by p (yes e) = ap (put_v (put_v u q (sub_t (u q) v)) q t0) e ∙ put_same (put_v u q (sub_t (u q) v)) q t0 ∙ sym (put_same u q t0) ∙ ap (put_v u q t0) (sym e)
    by p (no f) = put_other (put_v u q (sub_t (u q) v)) q t0 p f ∙ put_other u q (sub_t (u q) v) p f ∙ sym (put_other u q t0 p f)

module _ (r n : ℕ) (H A : Matrix) (ps : List ℕ) (k : Kept r n H ps) (d : Lowered r n H A ps) (full : length ps ≡ r) where
  -- the rows from c on have product 0, and then all rows
  back_rows : (c : ℕ) (u : Vector) → c ≤ r → ((i : ℕ) → c ≤ i → i < r → times n A u i ≡ t0) → (i : ℕ) → i < r
      → times n A (backed n A (λ c. get_or ps c 0) c u) i ≡ t0
  unfolding backed
  back_rows zero u h f i l = f i (omega arith) l
  back_rows (suc c) u h f i l = back_rows c next (omega arith) (λ i g l. rows i g l (ℕ_discrete i c)) i l
    where
      next : Vector
      next = put_v u (get_or ps c 0) (sub_t (u (get_or ps c 0)) (times n A u c))

      less : (i : ℕ) → times n A (put_v u (get_or ps c 0) (sub_t (u (get_or ps c 0)) (times n A u c))) i
          ≡ sub_t (times n A u i) (mul_t (A i (get_or ps c 0)) (times n A u c))
      less i = times_less n A u (get_or ps c 0) (times n A u c) i (k.below (get_or ps c 0) (elem_at ps c (omega arith)))

      rows : (i : ℕ) → c ≤ i → i < r → Dec (i ≡ c) → times n A (put_v u (get_or ps c 0) (sub_t (u (get_or ps c 0)) (times n A u c))) i ≡ t0
      rows i g l (yes e) = less i ∙ rw e (ap (λ (x : Trit). sub_t (times n A u c) (mul_t x (times n A u c))) (d.one c (omega arith)) ∙ add_neg (times n A u c))
      rows i g l (no e) =
          let m : c < i = omega (arith, e) in
          less i ∙ ap₂ (λ (x y : Trit). sub_t x (mul_t y (times n A u c))) (f i m l) (d.none c i (omega arith) m l)

  -- other places keep what they had
  back_off : (c : ℕ) (u : Vector) (q : ℕ) → c ≤ r → elem q ps ≡ false → backed n A (λ c. get_or ps c 0) c u q ≡ u q
  unfolding backed
  back_off zero u q h e = refl
  back_off (suc c) u q h e =
      back_off c (put_v u (get_or ps c 0) (sub_t (u (get_or ps c 0)) (times n A u c))) q (omega arith) e
      ∙ put_other u (get_or ps c 0) (sub_t (u (get_or ps c 0)) (times n A u c)) q
      (λ z. true≢false (sym (elem_at ps c (omega arith)) ∙ sym (ap (λ (p : ℕ). elem p ps) z) ∙ e))

  -- x less what x - w becomes is the solution that is w off the pivots
  pub back_solves : (x w : Vector)
      → solve r n H (times n H x) ps w ≡ some (λ q. sub_t (x q) (backed n A (λ c. get_or ps c 0) r (λ q. sub_t (x q) (w q)) q))
  back_solves x w =
      let u : Vector = λ q. sub_t (x q) (w q) in
      let z : Vector = backed n A (λ c. get_or ps c 0) r u in
      solve_is r n H ps k (times n H x) (λ q. sub_t (x q) (z q)) w
      (λ q m. ap (sub_t (x q)) (back_off r u q (omega arith) m) ∙ law2 (λ x w. sub_t x (sub_t x w)) (λ x w. w) tt (x q) (w q))
      ((span_alike r n H A d.span (λ q. sub_t (x q) (z q)) x).1
      (λ i l. times_sub n A x z i ∙ ap (sub_t (times n A x i)) (back_rows r u (omega arith) (λ i g l. absurd (omega arith)) i l) ∙ add_zero_r (times n A x i)))
