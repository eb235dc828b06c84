-- A refusal leaves the word and s as they were; else the rows of the halves are written as the word (`word_written`); the working space is 0 after both.
-- Assumes nothing.
use Prim.Native.Nat.{ℕ, ◌+◌, ◌*◌, ◌<◌}
use mathlib.Core.Path.{◌≡◌, refl, sym, ap, ◌∙◌}
use mathlib.Core.Bool.{true, false, true≢false}
use native.Mathlib.Omega.{arith}
use Rattle.std.specs.Prelude.{Result, Ok, Err}
use Rattle.std.specs.Result.{is_ok}
use Rattle.trits.specs.Refusal.{code_of}
use Rattle.trits.specs.declared.refusal.Refusal.{Refusal}
use Rattle.trits.specs.Trit.{up_to}
use Rattle.trits.specs.Planes.{words_for, ones_of, twos_of}
use Rattle.trits.proofs.Refusals.{exit_kept, exit_new, number_positive}
use Rattle.matrix.specs.Linear.{Vector}
use Rattle.scheme.specs.Sizes.{places, dim}
use Rattle.draw_pairs.proofs.DrawRows.{word_written, signature_written}
use Rattle.calls.specs.Lent.{half_words, secret_of}
use Rattle.calls.specs.DrawCall.{matrix_rows, syndrome_of, choices_of, word_of}
use Rattle.calls.proofs.Bounds.{bounds}
use Rattle.calls.proofs.Exits.{cleared}
use Rattle.draw_tests.specs.Steps.{given_lent}
use Rattle.draw_tests.proofs.Space.{space, rows_are}
use Rattle.draw_finish.proofs.finish.Goals as goal
use Rattle.draw_finish.proofs.finish.Goals.{then-is_ok, else-is_ok}

-- a word that is made is told by 0, and a refusal by more
made_zero : (r : Result Unit Refusal) → is_ok r ≡ true → code_of r ≡ 0
made_zero (Ok u) e = refl
made_zero (Err q) e = absurd (true≢false (sym e))

refused_more : (r : Result Unit Refusal) → is_ok r ≡ false → 0 < code_of r
refused_more (Ok u) e = absurd (true≢false e)
refused_more (Err q) e = number_positive q

pub returns : goal.returns
unfolding word_of
returns c =
    let z = c.args.z.sizes in
    let i = given_lent c.args.secret c.args.p.now c.args.y c.args.choices in
    let (told, grid, made) = c.make_word-made.ensures in
    let ones_zero = cleared c.clear.ensures.0 c.work_ones-1.given in
    let twos_zero = cleared c.clear.ensures.1 c.work_twos-1.given in
    elim c.if-is_ok.branch [
      | then-is_ok w ↦
          let n = made_zero c.make_word-made.result (sym c.is_ok.ensures.value ∙ w.if-is_ok.true) in
          let f = sym told ∙ n in
          let d = word_written z (secret_of z i.secret) i.p (syndrome_of i) (choices_of i) _ _ (made.left n) (made.right n) in
          let t = signature_written z (secret_of z i.secret) i.p (syndrome_of i) (choices_of i) _ _ (made.left n) (made.right n) in
          let (word_ones, word_twos, s_ones, s_twos) = w.release_word.ensures in (
            told,
            w.word_ones-is ∙ word_ones ∙ ap (λ (v : Vector). ones_of (up_to (places z) v) (words_for (places z))) d ∙ exit_new _ _ f,
            w.word_twos-is ∙ word_twos ∙ ap (λ (v : Vector). twos_of (up_to (places z) v) (words_for (places z))) d ∙ exit_new _ _ f,
            w.s_ones-is ∙ s_ones ∙ ap (λ (v : Vector). ones_of (up_to (dim z) v) (words_for (dim z))) t ∙ exit_new _ _ f,
            w.s_twos-is ∙ s_twos ∙ ap (λ (v : Vector). twos_of (up_to (dim z) v) (words_for (dim z))) t ∙ exit_new _ _ f,
            ones_zero,
            twos_zero,
          )
      | else-is_ok w ↦
          let h = refused_more c.make_word-made.result (sym c.is_ok.ensures.value ∙ w.if-is_ok.false) in (
            told,
            w.word_ones-is ∙ exit_kept _ _ told h,
            w.word_twos-is ∙ exit_kept _ _ told h,
            w.s_ones-is ∙ exit_kept _ _ told h,
            w.s_twos-is ∙ exit_kept _ _ told h,
            ones_zero,
            twos_zero,
          )
    ]

pub overflow_add-l : goal.overflow_add-l
overflow_add-l c =
    let z = c.args.z.sizes in
    omega (arith, c.max-l.ensures ∙ rows_are z c.shape-s.ensures, (space z (bounds z c.args.z.fit)).rows)

pub make_word-made-requires : goal.make_word-made-requires
make_word-made-requires c =
    let z = c.args.z.sizes in
    -- as many rows as the larger matrix has, and the working space has room for both
    let rows = c.max-l.ensures ∙ rows_are z c.shape-s.ensures in
    let room = space z (bounds z c.args.z.fit) in
    let all : matrix_rows z + 248 ≡ c.max-l.result + 243 + 5 = omega (arith, rows) in
    record {
      ready = c.requires.ready;
      u_few = omega (arith, rows, room.u);
      v_few = omega (arith, rows, room.v);
      small = omega (arith, rows, room.rows);
      work_ones_size = c.requires.work_ones_size ∙ ap (λ (n : ℕ). n * half_words z) all;
      work_twos_size = c.requires.work_twos_size ∙ ap (λ (n : ℕ). n * half_words z) all;
    }

pub release_word-requires : goal.release_word-requires
release_word-requires c =
    let z = c.args.z.sizes in
    let m = c.requires in
    record {
      is_order = m.ready.choices.p;
      small = omega (arith, c.max-l.ensures ∙ rows_are z c.shape-s.ensures, (space z (bounds z c.args.z.fit)).rows);
      grid = c.make_word-made.ensures.1;
      word_ones_size = m.word_ones_size;
      word_twos_size = m.word_twos_size;
      s_ones_size = m.s_ones_size;
      s_twos_size = m.s_twos_size;
    }
