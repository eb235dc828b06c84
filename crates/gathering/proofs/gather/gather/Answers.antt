-- Each plane is gathered by itself; the working words of the ones are made 0, so that no bit is in both (`both_gathered`).
-- Assumes nothing.
use Prim.Native.Nat.{ℕ, ◌+◌, ◌-◌, ◌*◌, ◌≤◌, ◌<◌}
use mathlib.Core.List.{List}
use native.Mathlib.Nat.{mul-le-mul_right}
use native.Mathlib.Omega.{arith}
use borrow.Rule.Slice.PartMut.{mid_of}
use lib.ListN.{length, get_or}
use Rattle.trits.proofs.Parts.{length_mid}
use Rattle.matrix.proofs.Orders.{place_below}
use Rattle.gathering.specs.Steps.{ForGather}
use Rattle.gathering.proofs.Both.{both_gathered}
use Rattle.gathering.proofs.gather.gather.Goals as goal

-- the working rows stand in the grid
free : {o t ho ht order : List ℕ} {rows w r m : ℕ} → ForGather o t rows w r ho ht order m → r * w + 243 * w ≤ rows * w
free {w = w} p = omega (arith, mul-le-mul_right w p.room)

-- the places of the order are columns
places : {o t ho ht order : List ℕ} {rows w r m : ℕ} → ForGather o t rows w r ho ht order m → (j : ℕ) → j < length order → get_or order j 0 < 64 * w
places {order = order} p j h = omega (arith, place_below order (length order) j p.is_order h, p.places_fit)

pub gather_plane-requires : goal.gather_plane-requires
gather_plane-requires c =
    record {
      room = omega (arith, free c.requires, c.requires.grid.size);
      small = c.requires.small;
      front = c.requires.front;
      places = places c.requires;
    }

pub gather_plane-requires-2 : goal.gather_plane-requires-2
gather_plane-requires-2 c =
    record {
      room = omega (arith, free c.requires, c.requires.grid.size, c.requires.grid.row.same);
      small = omega (arith, c.requires.small, c.requires.grid.row.same);
      front = c.requires.front;
      places = places c.requires;
    }

pub slice_bounds-zero_words-end : goal.slice_bounds-zero_words-end
slice_bounds-zero_words-end c = omega (arith, free c.requires, c.requires.grid.size, c.gather_plane.ensures.kept)

pub returns : goal.returns
returns c =
    let a = c.args in
    let e = c.gather_plane.ensures in
    let n = a.r * a.w + 243 * a.w - a.r * a.w in
    let o = c.gather_plane.new.plane in
    let l = length_mid (a.r * a.w) n o (omega (arith, free c.requires, c.requires.grid.size, e.kept)) in
    let inside : (j : ℕ) → j < a.m → get_or a.order.now j 0 < 64 * a.w = λ j h. places c.requires j (omega (arith, c.requires.front)) in
    let both =
    both_gathered a.h.ones.now a.h.twos.now a.order.now a.w a.r a.m c.requires.grid c.requires.h_grid c.requires.room inside
    (omega (arith, c.requires.front, c.requires.places_fit)) e c.gather_plane-2.ensures n (length (mid_of (a.r * a.w) n o))
    c.zero_words.new.plane (omega arith) l c.zero_words.ensures (λ j. (c.type_inv.ones j).fits) in
    record { rows = both.0; front = both.1 }
