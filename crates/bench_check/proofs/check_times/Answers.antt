-- A refusal is handed on before anything is touched; else the ones and twos are judged, and both planes of the working space are zeroed.
-- Assumes nothing.
use mathlib.Core.Path.{sym, subst, ◌∙◌}
use native.Mathlib.Omega.{arith}
use Rattle.trits.proofs.Refusals.{number_positive, left_kept}
use Rattle.held_key.specs.declared.state.Held.{Held}
use Rattle.check_tests.proofs.Answers.{told_refused, answer_new, leaves_check, left_zero}
use Rattle.checker.specs.Steps.{ForWeigh}
use Rattle.checker.proofs.Weighed.{ready}
use Rattle.bench_check.proofs.Laws.{after_alike, after_few}
use Rattle.bench_check.proofs.check_times.Goals as goal

pub returns-in_err-begun : goal.returns-in_err-begun
returns-in_err-begun c =
    let e = c.in_err-begun.ensures.refusal in
    let l = number_positive _ in
    (told_refused _ _ _ _ c.from_residual.ensures.1 e, left_kept _ e l (leaves_check _), left_kept _ e l (leaves_check _))

pub weigh_times-counts-requires : goal.weigh_times-counts-requires
weigh_times-counts-requires c =
    let a = c.args in
    subst (λ (h : Held). ForWeigh h a.key.ones.now a.key.twos.now a.y.ones.now a.y.twos.now a.s.ones.now a.s.twos.now a.work_ones.now a.work_twos.now)
    (sym c.in_ok-begun.ensures.same) (ready _ (sym c.in_ok-begun.ensures.refusal))

pub judge-requires : goal.judge-requires
judge-requires c =
    let of_held = after_alike _ _ _ _ _ c.weigh_times-counts.ensures c.in_ok-begun.ensures.same in
    after_few c.args.times _ _ (ready _ (sym c.in_ok-begun.ensures.refusal)).whole of_held

pub returns : goal.returns
returns c =
    let of_held = after_alike _ _ _ _ _ c.weigh_times-counts.ensures c.in_ok-begun.ensures.same in
    let e = c.in_ok-begun.ensures.refusal in (
      c.judge.ensures ∙ answer_new _ e of_held,
      left_zero _ (sym e) (omega arith) c.zero_words.ensures,
      left_zero _ (sym e) (omega arith) c.zero_words-2.ensures,
    )
