-- Each plane is gathered by itself; the working words of the ones are made 0, so that no bit is in both (`both_own`).
-- Assumes nothing.
use mathlib.Core.List.{List}
use Prim.Native.Nat.{ℕ, ◌+◌, ◌-◌, ◌*◌, ◌≤◌}
use native.Mathlib.Nat.{mul-le-mul_right}
use native.Mathlib.Omega.{arith}
use borrow.Rule.Slice.PartMut.{mid_of}
use lib.ListN.{length}
use Rattle.trits.proofs.Parts.{length_mid}
use Rattle.matrix.proofs.Orders.{place_below}
use Rattle.build_columns.specs.Steps.{Halves, ForGatherOwn}
use Rattle.build_columns.proofs.Both.{both_own}
use Rattle.build_columns.proofs.gather_own.gather_own.Goals as goal

-- the working rows stand in the grid
free : {ones twos order : List ℕ} {rows w r half hw : ℕ} → ForGatherOwn ones twos rows w r half hw order → r * w + 243 * w ≤ rows * w
free {w = w} g = omega (arith, mul-le-mul_right w g.room)

-- the places of the order are those of two halves
halves : {ones twos order : List ℕ} {rows w r half hw : ℕ} → ForGatherOwn ones twos rows w r half hw order → Halves order half hw w
halves {order = order} g = record {
  half_fits = g.half_fits;
  words = g.words;
  places = λ j h. omega (arith, place_below order (length order) j g.is_order h, g.places_fit);
}

pub gather_own_plane-requires : goal.gather_own_plane-requires
gather_own_plane-requires c = record {
  room = omega (arith, free c.requires, c.requires.grid.size);
  small = c.requires.small;
  halves = halves c.requires;
}

pub gather_own_plane-requires-2 : goal.gather_own_plane-requires-2
gather_own_plane-requires-2 c = record {
  room = omega (arith, free c.requires, c.requires.grid.size, c.requires.grid.row.same);
  small = omega (arith, c.requires.small, c.requires.grid.row.same);
  halves = halves c.requires;
}

pub overflow_mul-a : goal.overflow_mul-a
overflow_mul-a c =
    omega (arith, free c.requires, c.requires.grid.size, c.requires.small)

pub overflow_mul-z : goal.overflow_mul-z
overflow_mul-z c =
    omega (arith, free c.requires, c.requires.grid.size, c.requires.small)

pub overflow_add-z : goal.overflow_add-z
overflow_add-z c =
    omega (arith, free c.requires, c.requires.grid.size, c.requires.small)

pub offset_bounds-ones-a : goal.offset_bounds-ones-a
offset_bounds-ones-a c =
    omega (arith, free c.requires, c.requires.grid.size, c.requires.small)

pub slice_bounds-zero_words-end : goal.slice_bounds-zero_words-end
slice_bounds-zero_words-end c =
    omega (arith, free c.requires, c.requires.grid.size, c.gather_own_plane.ensures.rows.kept)

pub returns : goal.returns
returns c =
    let a = c.args in
    let e = c.gather_own_plane.ensures in
    let n = a.r * a.w + 243 * a.w - a.r * a.w in
    let o = c.gather_own_plane.new.plane in
    let l = length_mid (a.r * a.w) n o (omega (arith, free c.requires, c.requires.grid.size, e.rows.kept)) in
    let b = both_own c.requires.grid c.requires.room (halves c.requires) c.requires.places_fit e c.gather_own_plane-2.ensures n
    (length (mid_of (a.r * a.w) n o)) c.zero_words.new.plane (omega arith) l c.zero_words.ensures (λ j. (c.type_inv.ones j).fits) in
    record { rows = b.0; front = b.1 }
