-- Each byte is one step of the machine, and what it prints is written.
use Rattle.std.proofs.Common.{take, ap, ◌∙◌, get_or, ◌+◌}
use Rattle.std.proofs.lemmas.Result.{err_from_is_err_and}
use Rattle.text_lines.specs.Machine.{machine, stepped, step_prints}
use Rattle.check_lines.proofs.After.{after_none, after_more}
use Rattle.check_lines.proofs.Answered.{appends_none, appends_then, appends_as, shown_none, shown_more, front_put}
use Rattle.check_lines.proofs.chunk.Goals as goal

pub loop-byte-init : goal.loop-byte-init
loop-byte-init g c = record { reached = after_none _; written = appends_as _ _ (shown_none _) (appends_none _) }

pub returns-in_err-print-clause-taken : goal.returns-in_err-print-clause-taken
returns-in_err-print-clause-taken g c =
    let a = c.args in
    let l = c.loop-byte in
    let m = machine a.start a.line.now a.ones.now a.twos.now in
    let p = err_from_is_err_and c.from_residual.result c.from_residual.ensures.1 in
    rw p.1 (
      c.step-next.result.state,
      l.byte-index + 1,
      c.step-next.ensures.twos_after ∙ ap (stepped _) l.invariant.reached ∙ after_more a.bytes.now l.byte-index m c.loop-byte-test.true,
    )

pub loop-byte-preserved : goal.loop-byte-preserved
loop-byte-preserved g c =
    let a = c.args in
    let l = c.loop-byte in
    let i = l.byte-index in
    let h = c.loop-byte-test.true in
    let m = machine a.start a.line.now a.ones.now a.twos.now in
    let e = c.step-next.ensures in
    let n = c.step-next.result.count in
    let b = get_or a.bytes.now i 0 in
    record {
      reached = e.twos_after ∙ ap (stepped _) l.invariant.reached ∙ after_more a.bytes.now i m h;
      written =
          appends_as _ _ (shown_more a.bytes.now i m h) (appends_then _ _ _ _ _ l.invariant.written
          (appends_as _ _ (ap (take n) e.out_after ∙ front_put l.out _ n e.count_value ∙ ap (step_prints b) l.invariant.reached)
          c.in_ok-print.ensures));
    }
