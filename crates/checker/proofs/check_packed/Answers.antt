-- A refusal is handed on before anything is touched; else the ones and twos are judged, and both planes of the working space are zeroed.
-- Assumes nothing.
use mathlib.Core.Path.{sym, subst, ◌∙◌}
use native.Mathlib.Omega.{arith}
use Rattle.trits.proofs.Refusals.{number_positive, left_kept}
use Rattle.held_key.specs.declared.state.Held.{Held}
use Rattle.check_tests.specs.Check.{check_packed_answer_under}
use Rattle.check_tests.proofs.Answers.{told_refused, answer_new, leaves_packed_check, left_zero}
use Rattle.checker.specs.Steps.{ForWeighPacked}
use Rattle.checker.proofs.Weighed.{few_counts, counts_alike, packed_ready}
use Rattle.checker.proofs.check_packed.Goals as goal

pub returns-in_err-begun : goal.returns-in_err-begun
unfolding check_packed_answer_under
returns-in_err-begun c =
    let e = c.in_err-begun.ensures.refusal in
    let l = number_positive _ in (
      told_refused _ _ _ _ c.from_residual.ensures.1 e,
      left_kept _ e l (leaves_packed_check _),
      left_kept _ e l (leaves_packed_check _),
    )

pub weigh_packed-counts-requires : goal.weigh_packed-counts-requires
weigh_packed-counts-requires c =
    let a = c.args in
    subst (λ (h : Held). ForWeighPacked h a.key.ones.now a.key.twos.now a.y.now a.s.now a.work_ones.now a.work_twos.now)
    (sym c.in_ok-begun.ensures.same) (packed_ready _ (sym c.in_ok-begun.ensures.refusal))

pub judge-requires : goal.judge-requires
judge-requires c =
    let a = c.args in
    let of_held = counts_alike _ _ _ _ c.weigh_packed-counts.ensures c.in_ok-begun.ensures.same in
    few_counts _ _ (packed_ready _ (sym c.in_ok-begun.ensures.refusal)).whole of_held

pub returns : goal.returns
unfolding check_packed_answer_under
returns c =
    let a = c.args in
    let of_held = counts_alike _ _ _ _ c.weigh_packed-counts.ensures c.in_ok-begun.ensures.same in
    let e = c.in_ok-begun.ensures.refusal in (
      c.judge.ensures ∙ answer_new _ e of_held,
      left_zero _ (sym e) (omega arith) c.zero_words.ensures,
      left_zero _ (sym e) (omega arith) c.zero_words-2.ensures,
    )
