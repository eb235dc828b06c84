-- The header, the answers to all bytes and that to the end of the text are what the whole text prints (`whole`).
use Rattle.std.proofs.Common.{ap, ◌∙◌, subst, take, arith}
use Rattle.std.proofs.lemmas.List.{length-take}
use Rattle.std.specs.Io.KnownBytes.{Appends}
use Rattle.trits.specs.Planes.{zero_words, tabulate}
use Rattle.text.specs.Answers.{header}
use Rattle.text_lines.specs.Machine.{Machine, started}
use Rattle.check_lines.specs.{AllPrinted}
use Rattle.check_lines.proofs.Answered.{whole, begun, appends_as, front_put, put_count}
use Rattle.check_lines.proofs.answer.Goals as goal

pub slice_bounds-print-end : goal.slice_bounds-print-end
slice_bounds-print-end g c =
    let e = c.begin-begun.ensures in
    let n = c.begin-begun.result.count in
    let out = c.begin-begun.new.out in
    omega (arith, length-take n out, put_count _ header out n e.out_after e.count_value)

pub returns : goal.returns
unfolding zero_words tabulate
returns g c =
    let w = g.W.Write.contents c.args.output.now in
    let a = g.W.Write.contents c.print.new.output in
    let b = g.W.Write.contents c.read_all-read.new.output in
    let v = g.W.Write.contents c.finish.new.output in
    let r = g.R.Read.remaining c.args.input.now in
    let q = g.R.Read.remaining c.read_all-read.new.input in
    let e = c.begin-begun.ensures in
    let n = c.begin-begun.result.count in
    let p = c.read_all-read in
    let h : Appends w a header = appends_as w a (ap (take n) e.out_after ∙ front_put _ header n e.count_value) c.in_ok-print.ensures in
    let f : AllPrinted r q a b started p.new.line p.new.ones p.new.twos p.result =
    subst (λ (m : Machine). AllPrinted r q a b m p.new.line p.new.ones p.new.twos p.result)
    (begun c.begin-begun.result.state e.state_value) p.ensures.printed in
    whole w a b v h r q p.new.line p.new.ones p.new.twos p.result c.finish.result f c.finish.ensures
