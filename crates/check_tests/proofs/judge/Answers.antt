-- Ones and twos are yes where their sum is w.
-- Assumes nothing.
use Rattle.check_tests.proofs.Answers.{says_yes_law, says_no}
use Rattle.check_tests.proofs.judge.Goals as goal

pub returns-then-counts-w : goal.returns-then-counts-w
returns-then-counts-w c =
    says_yes_law _ _ c.if-counts-w.true

pub returns-else-counts-w : goal.returns-else-counts-w
returns-else-counts-w c =
    says_no _ _ c.if-counts-w.false
