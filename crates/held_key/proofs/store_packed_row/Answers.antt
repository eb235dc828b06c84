-- A refused row leaves all as it was; one that passes is unpacked into the part that begins at its own start, and is counted.
-- Assumes nothing.
use Prim.Native.Nat.{ℕ, ◌+◌, ◌-◌, ◌*◌}
use mathlib.Core.Path.{◌≡◌, sym, ap, ◌∙◌}
use native.Mathlib.Omega.{arith}
use lib.ListN.{length-take, length-drop}
use Rattle.trits.specs.Planes.{words_for, ones_of, twos_of}
use Rattle.trits.proofs.Reading.{length_ones, length_twos}
use Rattle.trits.proofs.Refusals.{exit_kept, exit_new}
use Rattle.packed.specs.Packed.{packed_row, packed_refusal}
use Rattle.held_key.specs.Held.{row_trits, row_words}
use Rattle.held_key.specs.Store.{stored_held, next_held}
use Rattle.held_key.proofs.Outcomes.{handed_on, refused_positive, state_stays}
use Rattle.held_key.proofs.Room.{placed, stored_packed_passed}
use Rattle.held_key.proofs.Storing.{plane_kept, plane_lent}
use Rattle.held_key.proofs.store_packed_row.Goals as goal

pub returns-in_err-begun : goal.returns-in_err-begun
unfolding stored_held
returns-in_err-begun c =
    let e = handed_on _ _ c.from_residual.ensures.1 c.in_err-begun.ensures.refusal in
    let l = refused_positive _ c.from_residual.ensures.0 in
    (e, state_stays _ _ c.from_residual.ensures.0 ∙ exit_kept _ _ e l, plane_kept _ _ _ e l, plane_kept _ _ _ e l)

pub overflow_mul-start : goal.overflow_mul-start
overflow_mul-start c =
    let passed = stored_packed_passed _ (sym c.in_ok-begun.ensures.refusal) in
    let p = placed passed.0 (c.row_words-words.ensures ∙ ap row_words c.in_ok-begun.ensures.same) in
    omega (arith, p.small)

pub overflow_add-end : goal.overflow_add-end
overflow_add-end c =
    let passed = stored_packed_passed _ (sym c.in_ok-begun.ensures.refusal) in
    let p = placed passed.0 (c.row_words-words.ensures ∙ ap row_words c.in_ok-begun.ensures.same) in
    omega (arith, p.small)

pub offset_bounds-ones-start : goal.offset_bounds-ones-start
offset_bounds-ones-start c =
    let passed = stored_packed_passed _ (sym c.in_ok-begun.ensures.refusal) in
    let p = placed passed.0 (c.row_words-words.ensures ∙ ap row_words c.in_ok-begun.ensures.same) in
    omega (arith, p.small)

pub slice_bounds-write_part-end : goal.slice_bounds-write_part-end
slice_bounds-write_part-end c =
    let passed = stored_packed_passed _ (sym c.in_ok-begun.ensures.refusal) in
    let p = placed passed.0 (c.row_words-words.ensures ∙ ap row_words c.in_ok-begun.ensures.same) in
    omega (arith, p.in_ones)

pub slice_bounds-write_part-end-2 : goal.slice_bounds-write_part-end-2
slice_bounds-write_part-end-2 c =
    let passed = stored_packed_passed _ (sym c.in_ok-begun.ensures.refusal) in
    let p = placed passed.0 (c.row_words-words.ensures ∙ ap row_words c.in_ok-begun.ensures.same) in
    omega (arith, p.in_twos)

pub write_part-requires : goal.write_part-requires
write_part-requires c =
    let a = c.args in
    let passed = stored_packed_passed _ (sym c.in_ok-begun.ensures.refusal) in
    let p = placed passed.0 (c.row_words-words.ensures ∙ ap row_words c.in_ok-begun.ensures.same) in
    let m = c.row_trits.ensures ∙ ap row_trits c.in_ok-begun.ensures.same in
    record {
      ones_size = simp (length-take, length-drop) (omega (arith, p.in_ones, p.words, m));
      twos_size = simp (length-take, length-drop) (omega (arith, p.in_twos, p.words, m));
      bytes_size = omega (arith, m, passed.1);
      small = omega (arith, m, passed.0.all);
      not_refused = ap (λ (x : ℕ). packed_refusal x a.row.now) m ∙ passed.2;
    }

pub returns : goal.returns
unfolding stored_held
returns c =
    let a = c.args in
    let z = sym c.in_ok-begun.ensures.refusal in
    let p = placed (stored_packed_passed _ z).0 (c.row_words-words.ensures ∙ ap row_words c.in_ok-begun.ensures.same) in
    let m = c.row_trits.ensures ∙ ap row_trits c.in_ok-begun.ensures.same in
    let w = c.row_words-words.result in
    let d : a.held.rows * w + w - a.held.rows * w ≡ w = omega arith in
    let g = c.write_part.ensures in
    let v = packed_row a.row.now in (
      c.in_ok-begun.ensures.refusal,
      c.count_row.ensures ∙ ap next_held c.in_ok-begun.ensures.same ∙ exit_new _ _ z,
      plane_lent _ _ _ z p.start (d ∙ p.words ∙ sym (length_ones v (row_words a.held)))
          (g.ones_are ∙ ap (λ (m : ℕ). ones_of v (words_for m)) m),
      plane_lent _ _ _ z p.start (d ∙ p.words ∙ sym (length_twos v (row_words a.held)))
          (g.twos_are ∙ ap (λ (m : ℕ). twos_of v (words_for m)) m),
    )
