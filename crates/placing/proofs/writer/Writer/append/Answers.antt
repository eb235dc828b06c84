-- The piece fills what is left of the words that are begun, or less (`appended_full`, `appended_begun`).
-- Assumes nothing.
use Rattle.placing.proofs.Writing.{appended_begun, appended_full}
use Rattle.placing.proofs.writer.Writer.append.Goals as goal

pub returns-then-s-count-lt64 : goal.returns-then-s-count-lt64
returns-then-s-count-lt64 c =
    let a = c.args in
    appended_begun a.ones.now a.twos.now a.self.now a.piece a.count c.requires.few c.if-s-count-lt64.true

pub returns : goal.returns
returns c =
    let a = c.args in
    appended_full a.ones.now a.twos.now a.self.now a.piece a.count c.requires.few c.if-s-count-lt64.false c.requires.room
