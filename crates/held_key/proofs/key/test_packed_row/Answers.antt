-- The state and the planes, then the row: the first refusal is returned.
-- Assumes nothing.
use mathlib.Core.Path.{refl, sym, ap, ◌∙◌}
use Prim.Native.Nat.{ℕ}
use native.Mathlib.Omega.{arith}
use lib.ListN.{length}
use borrow.Author.Tests.{eq-eqb, ne_eqb}
use Rattle.trits.proofs.Refusals.{first_stops, first_goes}
use Rattle.packed.specs.Packed.{bytes_for, packed_refusal}
use Rattle.held_key.specs.Held.{row_trits}
use Rattle.held_key.specs.Store.{store_packed_refusal}
use Rattle.held_key.proofs.Outcomes.{handed_on, refused}
use Rattle.held_key.proofs.Room.{room}
use Rattle.held_key.proofs.key.test_packed_row.Goals as goal

pub returns-in_err-begun-clause-refusal : goal.returns-in_err-begun-clause-refusal
unfolding store_packed_refusal
returns-in_err-begun-clause-refusal c =
    first_stops _ (handed_on _ _ c.from_residual.ensures.1 c.in_err-begun.ensures.refusal) (refused _ c.from_residual.ensures.0)

pub overflow_add-m : goal.overflow_add-m
overflow_add-m c =
    let room_left = room _ _ _ (sym c.in_ok-begun.ensures.refusal) in
    omega (arith, room_left.all, c.row_trits-m.ensures, ap row_trits c.in_ok-begun.ensures.same)

pub returns-then-row-m-clause-refusal : goal.returns-then-row-m-clause-refusal
unfolding store_packed_refusal
returns-then-row-m-clause-refusal c =
    let a = c.args in
    let m = c.row_trits-m.ensures ∙ ap row_trits c.in_ok-begun.ensures.same in
    first_goes c.in_ok-begun.ensures.refusal refl
    (rw (ne_eqb (length a.row.now) (bytes_for (row_trits a.held)) (λ z. c.if-row-m.true (z ∙ sym (ap bytes_for m)))))

pub returns-in_err-test_bytes-clause-refusal : goal.returns-in_err-test_bytes-clause-refusal
unfolding store_packed_refusal
returns-in_err-test_bytes-clause-refusal c =
    let a = c.args in
    let m = c.row_trits-m.ensures ∙ ap row_trits c.in_ok-begun.ensures.same in
    first_goes c.in_ok-begun.ensures.refusal refl
    (handed_on _ _ c.from_residual-in_err-test_bytes.ensures.1 (c.in_err-test_bytes.ensures ∙ ap (λ (x : ℕ). packed_refusal x a.row.now) m)
    ∙ rw (eq-eqb (length a.row.now) (bytes_for (row_trits a.held)) (c.if-row-m.false ∙ ap bytes_for m)))

pub returns-clause-refusal : goal.returns-clause-refusal
unfolding store_packed_refusal
returns-clause-refusal c =
    let a = c.args in
    let m = c.row_trits-m.ensures ∙ ap row_trits c.in_ok-begun.ensures.same in
    first_goes c.in_ok-begun.ensures.refusal refl
    (c.in_ok-test_bytes.ensures ∙ ap (λ (x : ℕ). packed_refusal x a.row.now) m
    ∙ rw (eq-eqb (length a.row.now) (bytes_for (row_trits a.held)) (c.if-row-m.false ∙ ap bytes_for m)))
