-- What is reached and printed from a machine that some bytes lead to is so from the one before them.
use Rattle.std.proofs.Common.{[]}
use Rattle.text_lines.specs.Machine.{machine}
use Rattle.check_lines.proofs.After.{after_none}
use Rattle.check_lines.proofs.Answered.{printed_nothing, printed_from}
use Rattle.check_lines.proofs.read_all.Goals as goal

pub loop-init : goal.loop-init
loop-init g c = ([], after_none _, printed_nothing _ _ _)

pub returns-in_default : goal.returns-in_default
returns-in_default g c =
    let a = c.args in
    let l = c.loop in
    let p = c.read_some in
    let i = l.invariant in
    let m = machine a.start a.line.now a.ones.now a.twos.now in
    let n = machine l.state l.line l.ones l.twos in
    let b = rw c.in_default.is at c.in_ok-next.ensures.printed in
    let f = printed_from _ _ _ _ _ _ m n i.0 i.1 i.2 p.new.line p.new.ones p.new.twos l.state b.0 in
    record { reached = (f.0, f.1); printed = (f, b.1) }

pub loop-preserved : goal.loop-preserved
loop-preserved g c =
    let a = c.args in
    let l = c.loop in
    let p = c.read_some in
    let i = l.invariant in
    let m = machine a.start a.line.now a.ones.now a.twos.now in
    let n = machine l.state l.line l.ones l.twos in
    printed_from _ _ _ _ _ _ m n i.0 i.1 i.2 p.new.line p.new.ones p.new.twos c.in-Some.next (rw c.in-Some.is at c.in_ok-next.ensures.printed)
