-- The byte is that of its place (`gives_byte`); after the last place of a block comes the next state (`gives_permuted`).
-- Assumes nothing.
use mathlib.Core.Path.{refl}
use Rattle.shake.proofs.Sponge.{gives_byte, gives_permuted, gives_same}
use Rattle.shake.proofs.squeezing.Output.next.Goals as goal

pub returns-then-self-eq136 : goal.returns-then-self-eq136
returns-then-self-eq136 c =
    record { is_next = λ g. gives_byte g; goes_on = λ g. rw c.after.ensures (gives_permuted g c.if-self-eq136.true refl refl) }

pub returns-else-self-eq136 : goal.returns-else-self-eq136
returns-else-self-eq136 c =
    record { is_next = λ g. gives_byte g; goes_on = λ g. gives_same g c.if-self-eq136.false }
