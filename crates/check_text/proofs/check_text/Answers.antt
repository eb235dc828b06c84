-- A refusal is handed on before anything is touched; else the hash and the word are judged, and both planes of the working space are zeroed.
-- Assumes nothing.
use Prim.Native.Nat.{ℕ}
use mathlib.Core.Path.{◌≡◌, sym, ap, subst, ◌∙◌}
use native.Mathlib.Omega.{arith}
use Rattle.trits.specs.Refusal.{number_of}
use Rattle.trits.proofs.Refusals.{number_positive}
use Rattle.packed.specs.Packed.{packed_row}
use Rattle.syndrome.specs.Syndrome.{hashed_row, hashed_refusal}
use Rattle.held_key.specs.declared.state.Held.{Held}
use Rattle.held_key.specs.Held.{row_trits}
use Rattle.check_tests.specs.Check.{held_counts, answered}
use Rattle.check_tests.proofs.Answers.{told_refused}
use Rattle.check_tests.proofs.Passed.{whole}
use Rattle.check_text.specs.TextCheck.{text_check_of, check_text_counts, check_text_answer}
use Rattle.check_text.specs.Steps.{ForJudgeText}
use Rattle.check_text.proofs.Tested.{Tested, tested, text_fitted, text_refused, text_decided, text_kept, text_zero}
use Rattle.check_text.proofs.check_text.Goals as goal

pub returns-in_err-begun : goal.returns-in_err-begun
unfolding check_text_answer
returns-in_err-begun c =
    let a = c.args in
    let call = text_check_of a.held a.number a.key.ones.now a.key.twos.now a.salt.now a.text.now a.s.now a.work_ones.now a.work_twos.now in
    -- the tests refused, and told this of it
    let q = c.in_err-begun.field-0.0 in
    let n : number_of q ≡ 0 → ⊥ = λ z. omega (arith, number_positive q) in
    let e = c.in_err-begun.ensures.refusal in (
      told_refused _ _ _ _ c.from_residual.ensures.1 (text_refused call e n),
      text_kept call e n a.work_ones.now,
      text_kept call e n a.work_twos.now,
    )

pub judge_text-answer-requires : goal.judge_text-answer-requires
judge_text-answer-requires c =
    let a = c.args in
    let call = text_check_of a.held a.number a.key.ones.now a.key.twos.now a.salt.now a.text.now a.s.now a.work_ones.now a.work_twos.now in
    -- past the tests the key is whole, and salt, s and the working space are in order
    let t : Tested call = tested _ (sym c.in_ok-begun.ensures.refusal) in
    let of_held : ForJudgeText a.held a.key.ones.now a.key.twos.now a.salt.now a.text.now a.s.now a.work_ones.now a.work_twos.now =
    record {
      whole = whole t.key_called;
      lengths = t.lengths;
      contents = t.contents;
      message = record { short = omega (arith, text_fitted _ _ _ t.lengths); fits = omega arith };
      work_ones = t.key_called.work_ones;
      work_twos = t.key_called.work_twos;
    } in
    subst (λ (h : Held). ForJudgeText h a.key.ones.now a.key.twos.now a.salt.now a.text.now a.s.now a.work_ones.now a.work_twos.now)
    (sym c.in_ok-begun.ensures.same) of_held

pub returns : goal.returns
unfolding check_text_answer
returns c =
    let a = c.args in
    let call = text_check_of a.held a.number a.key.ones.now a.key.twos.now a.salt.now a.text.now a.s.now a.work_ones.now a.work_twos.now in
    let z = sym c.in_ok-begun.ensures.refusal in
    -- the state that was tested is the one that was lent
    let of_held = ap (λ (h : Held). answered (hashed_refusal (row_trits h) a.salt.now a.text.now)
    (held_counts h a.key.ones.now a.key.twos.now (hashed_row (row_trits h) a.salt.now a.text.now) (packed_row a.s.now)) h.w)
    c.in_ok-begun.ensures.same in (
      c.judge_text-answer.ensures ∙ of_held ∙ ap (λ (r : ℕ). answered r (check_text_counts call) a.held.w) (text_decided call z),
      text_zero call z a.work_ones.now (omega (arith, c.judge_text-answer.auto)) c.zero_words.ensures,
      text_zero call z a.work_twos.now (omega arith) c.zero_words-2.ensures,
    )
