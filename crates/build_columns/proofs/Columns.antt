-- The columns of places: where they stand, and those of an order. Assumes nothing.
use mathlib.Core.Path.{◌≡◌, sym, subst}
use mathlib.Core.Bool.{cond}
use mathlib.Core.List.{List}
use Prim.Native.Nat.{ℕ, ◌+◌, ◌-◌, ◌*◌, ◌≤◌, ◌<◌}
use native.Mathlib.Decide.{dec_lt}
use native.Mathlib.Omega.{arith}
use borrow.Author.Tests.{lt-ltb, le-ltb}
use lib.Dec.{ltb}
use lib.ListN.{length, get_or}
use Rattle.trits.proofs.Lists.{get_d_tabulate}
use Rattle.build_matrix.specs.Steps.{col_of}
use Rattle.build_columns.specs.Steps.{columns_of, Halves}

pub col_below : (half hw w q : ℕ) → half ≤ 64 * hw → hw + hw ≤ w → q < half + half → col_of half hw q < 64 * w
unfolding col_of
col_below half hw w q a b h = by (dec_lt q half)
  where
    by : Dec (q < half) → cond (ltb q half) q (64 * hw + (q - half)) < 64 * w
    by (yes l) = rw (lt-ltb q half l) (omega arith)
    by (no l) = rw (le-ltb q half (omega arith)) (omega arith)

pub columns_at_law : (half hw : ℕ) (order : List ℕ) (j : ℕ) → j < length order → get_or (columns_of half hw order) j 0 ≡ col_of half hw (get_or order j 0)
unfolding columns_of
columns_at_law half hw order j h = get_d_tabulate (length order) (λ i. col_of half hw (get_or order i 0)) j 0 h

pub columns_below : {order : List ℕ} {half hw w : ℕ} → Halves order half hw w → (j : ℕ) → j < length order → get_or (columns_of half hw order) j 0 < 64 * w
columns_below {order} {half} {hw} {w} a j h =
    subst (λ (q : ℕ). q < 64 * w) (sym (columns_at_law half hw order j h)) (col_below half hw w (get_or order j 0) a.half_fits a.words (a.places j h))
