-- Each turn gathers up to 64 rows more (`own_plane_turn`).
-- Assumes nothing.
use mathlib.Core.List.{List}
use Prim.Native.Nat.{ℕ, ◌+◌, ◌-◌, ◌*◌, ◌<◌, min}
use mathlib.Core.Path.{◌≡◌, refl, subst}
use native.Mathlib.Omega.{arith}
use lib.ListN.{get_or}
use Rattle.build_columns.specs.Steps.{OwnRows}
use Rattle.build_columns.proofs.Columns.{columns_below}
use Rattle.build_columns.proofs.Planes.{own_plane_turn}
use Rattle.build_columns.proofs.gather_own.gather_own_plane.Goals as goal

-- a turn from row i on: the rows before it were gathered, and the next ones are
turned : {l₀ l l' columns : List ℕ} {w r i s e m : ℕ} → i < r → s ≡ min (r - i) 64 → e ≡ min (i + 64) r → ((j : ℕ) → j < m → get_or columns j 0 < 64 * w)
    → OwnRows w r 0 (min i r) columns m l₀ l → OwnRows w r i (i + s) columns m l l' → OwnRows w r 0 e columns m l₀ l'
turned {l₀} {l} {l'} {columns} {w} {r} {i} {s} {e} {m} h f g places a b =
    let at : min i r ≡ i = grind arith in
    let to : i + s ≡ e = grind arith in
    own_plane_turn (record { some = grind arith; near = grind arith; within = grind arith }) places
    (subst (λ n. OwnRows w r 0 n columns m l₀ l) at a)
    (subst (λ n. OwnRows w r i n columns m l l') to b)

pub loop-i-preserved : goal.loop-i-preserved
loop-i-preserved c =
    turned c.loop-i-test.true c.min.ensures refl (columns_below c.requires.halves) c.loop-i.invariant c.gather_own_rows.ensures

pub returns-2 : goal.returns-2
returns-2 c =
    turned c.loop-i-test.true c.min.ensures (grind arith) (columns_below c.requires.halves) c.loop-i.invariant c.gather_own_rows.ensures
