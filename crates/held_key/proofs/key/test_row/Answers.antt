-- The state and the planes, then the row: the first refusal is returned.
-- Assumes nothing.
use mathlib.Core.Path.{refl, sym, ap, ◌∙◌}
use native.Mathlib.Omega.{arith}
use lib.ListN.{length}
use borrow.Author.Tests.{eq-eqb, ne_eqb}
use Rattle.trits.specs.Refusal.{planes_refusal}
use Rattle.trits.proofs.Refusals.{first_stops, first_goes}
use Rattle.held_key.specs.Held.{row_trits, row_words}
use Rattle.held_key.specs.Store.{store_refusal_under}
use Rattle.held_key.proofs.Outcomes.{handed_on, refused}
use Rattle.held_key.proofs.Room.{room}
use Rattle.held_key.proofs.key.test_row.Goals as goal
use Rattle.held_key.proofs.key.test_row.Goals.{then-row-words-via-then-row-words, then-row-words-via-else-row-words+then-row-words-2}

pub returns-in_err-begun-clause-refusal : goal.returns-in_err-begun-clause-refusal
unfolding store_refusal_under
returns-in_err-begun-clause-refusal c =
    first_stops _ (handed_on _ _ c.from_residual.ensures.1 c.in_err-begun.ensures.refusal) (refused _ c.from_residual.ensures.0)

pub returns-then-row-words-clause-refusal : goal.returns-then-row-words-clause-refusal
unfolding store_refusal_under
returns-then-row-words-clause-refusal c =
    let a = c.args in
    let e = c.row_words-words.ensures ∙ ap row_words c.in_ok-begun.ensures.same in
    let passed = c.in_ok-begun.ensures.refusal in
    elim c.then-row-words.branch [
      | then-row-words-via-then-row-words w ↦
          first_goes passed refl (rw (ne_eqb (length a.row.ones.now) (row_words a.held) (λ z. w.if-row-words.true (z ∙ sym e))))
      | then-row-words-via-else-row-words+then-row-words-2 w ↦
          first_goes passed refl (rw (
            eq-eqb (length a.row.ones.now) (row_words a.held) (w.if-row-words.false ∙ e),
            ne_eqb (length a.row.twos.now) (row_words a.held) (λ z. w.if-row-words-2.true (z ∙ sym e)),
          ))
    ]

pub test_planes-requires : goal.test_planes-requires
test_planes-requires c =
    let room_left = room _ _ _ (sym c.in_ok-begun.ensures.refusal) in
    omega (
      arith,
      room_left.all,
      c.row_trits.ensures,
      c.row_words-words.ensures,
      ap row_trits c.in_ok-begun.ensures.same,
      c.if-row-words.false,
      c.if-row-words-2.false,
    )

pub returns-in_err-test_planes-clause-refusal : goal.returns-in_err-test_planes-clause-refusal
unfolding store_refusal_under
returns-in_err-test_planes-clause-refusal c =
    let a = c.args in
    let e = c.row_words-words.ensures ∙ ap row_words c.in_ok-begun.ensures.same in
    let m = c.row_trits.ensures ∙ ap row_trits c.in_ok-begun.ensures.same in
    first_goes c.in_ok-begun.ensures.refusal refl
    (handed_on _ _ c.from_residual-in_err-test_planes.ensures.1 (c.in_err-test_planes.ensures.refusal ∙ ap (planes_refusal a.row.ones.now a.row.twos.now 1) m)
    ∙ rw (
      eq-eqb (length a.row.ones.now) (row_words a.held) (c.if-row-words.false ∙ e),
      eq-eqb (length a.row.twos.now) (row_words a.held) (c.if-row-words-2.false ∙ e),
    ))

pub returns-clause-refusal : goal.returns-clause-refusal
unfolding store_refusal_under
returns-clause-refusal c =
    let a = c.args in
    let e = c.row_words-words.ensures ∙ ap row_words c.in_ok-begun.ensures.same in
    let m = c.row_trits.ensures ∙ ap row_trits c.in_ok-begun.ensures.same in
    first_goes c.in_ok-begun.ensures.refusal refl
    (c.in_ok-test_planes.ensures.refusal ∙ ap (planes_refusal a.row.ones.now a.row.twos.now 1) m ∙ rw (
      eq-eqb (length a.row.ones.now) (row_words a.held) (c.if-row-words.false ∙ e),
      eq-eqb (length a.row.twos.now) (row_words a.held) (c.if-row-words-2.false ∙ e),
    ))
