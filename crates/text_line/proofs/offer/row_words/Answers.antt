-- A row of at most 256 trits takes at most four words.
use mathlib.Core.Path.{ap, ◌∙◌}
use Prim.Native.Nat.{ℕ, ◌+◌, ◌/◌}
use native.Mathlib.Omega.{arith}
use Rattle.held_key.specs.Held.{row_words}
use Rattle.text_line.proofs.Lent.{asked_long, asked_over, asked_all}
use Rattle.text_line.proofs.offer.row_words.Goals as goal
use Rattle.text_line.proofs.offer.row_words.Goals.{then-held-gt-MOST_PLACES-via-then-held-gt-MOST_PLACES}
use Rattle.text_line.proofs.offer.row_words.Goals.{then-held-gt-MOST_PLACES-via-else-held-gt-MOST_PLACES+then-held}

pub returns-then-held-gt-MOST_PLACES-clause-value : goal.returns-then-held-gt-MOST_PLACES-clause-value
returns-then-held-gt-MOST_PLACES-clause-value c =
    elim c.then-held-gt-MOST_PLACES.branch [
      | then-held-gt-MOST_PLACES-via-then-held-gt-MOST_PLACES w ↦ asked_long c.args.held _ (omega arith)
      | then-held-gt-MOST_PLACES-via-else-held-gt-MOST_PLACES+then-held w ↦ asked_over c.args.held _ (omega arith) w.if-held.true
    ]

pub returns-clause-value : goal.returns-clause-value
returns-clause-value c =
    ap (λ (m : ℕ). (m + 63) / 64) c.row_trits.ensures ∙ asked_all c.args.held (row_words c.args.held) (omega arith) c.if-held.false
