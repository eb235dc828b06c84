-- The bytes of the header are written whole.
-- Assumes nothing.
use Rattle.text.specs.Answers.{header, printed}
use Rattle.text.proofs.answers.put_header.Goals as goal

pub returns : goal.returns
unfolding header printed
returns c =
    c.put_bytes.ensures
