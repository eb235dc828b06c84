-- Every word is written already, or all but the one that is begun (`finished_full`, `finished_begun`).
-- Assumes nothing.
use native.Mathlib.Omega.{arith}
use Rattle.placing.proofs.Writing.{finished_full, finished_begun}
use Rattle.placing.proofs.writer.Writer.finish.Goals as goal

pub returns-then-j-ones : goal.returns-then-j-ones
returns-then-j-ones c =
    let a = c.args in
    finished_full a.ones.now a.twos.now a.self c.requires.last (omega arith)

pub returns : goal.returns
returns c =
    let a = c.args in
    finished_begun a.ones.now a.twos.now a.self c.requires.last (omega arith)
