-- Where the rows of a block stand, among the rows of three tables of 81 entries after the first r rows. Assumes nothing.
use mathlib.Core.Path.{◌≡◌, refl, ap, ap₂}
use Prim.Native.Nat.{ℕ, zero, suc, ◌+◌, ◌*◌, ◌/◌, ◌%◌, ◌≤◌, ◌<◌}
use native.Mathlib.Decide.{ℕ_discrete}
use native.Mathlib.Omega.{arith}
use Rattle.matrix.specs.Blocks.{pow3, basis_row}
use Rattle.matrix.proofs.Entries.{pow3_some}

-- ---- the powers of 3 below 81

pub pow3_0 : pow3 0 ≡ 1
unfolding pow3
pow3_0 = refl

pub pow3_1 : pow3 1 ≡ 3
unfolding pow3
pow3_1 = refl

pub pow3_2 : pow3 2 ≡ 9
unfolding pow3
pow3_2 = refl

pub pow3_3 : pow3 3 ≡ 27
unfolding pow3
pow3_3 = refl

pub pow3_most : (d : ℕ) → d < 4 → pow3 d ≤ 27
pow3_most zero h = omega (arith, pow3_0)
pow3_most (suc zero) h = omega (arith, pow3_1)
pow3_most (suc (suc zero)) h = omega (arith, pow3_2)
pow3_most (suc (suc (suc zero))) h = omega (arith, pow3_3)
pow3_most (suc (suc (suc (suc d)))) h = absurd (omega arith)

pow3_less : (d e : ℕ) → d < e → pow3 d < pow3 e
unfolding pow3
pow3_less d zero h = absurd (omega arith)
pow3_less d (suc e) h = by (pow3_less d e) (ℕ_discrete d e)
  where
    by : (d < e → pow3 d < pow3 e) → Dec (d ≡ e) → pow3 d < 3 * pow3 e
    by g (yes z) = omega (arith, ap pow3 z, pow3_some e)
    by g (no f) = omega (arith, g (omega (arith, f)))

-- ---- the rows

-- row j, by its remainder
pub basis_digit : (r j d p : ℕ) → j % 4 ≡ d → pow3 d ≡ p → (r + 81 * (j / 4)) + p ≡ basis_row r j
unfolding basis_row
basis_digit r j d p e f = omega (arith, ap pow3 e, f)

-- row j of the block stands in the table of its four
pub basis_table : (r h j : ℕ) → j < 4 → basis_row r (4 * h + j) ≡ r + (81 * h + pow3 j)
unfolding basis_row
basis_table r h j l =
    let d : (4 * h + j) / 4 ≡ h = omega arith in
    let m : (4 * h + j) % 4 ≡ j = omega arith in
    ap₂ (λ (x y : ℕ). r + (81 * x + pow3 y)) d m

-- after the r rows
pub basis_past : (r j : ℕ) → r ≤ basis_row r j
unfolding basis_row
basis_past r j = omega arith

-- and in the tables
pub basis_in : (r j : ℕ) → j < 12 → basis_row r j < r + 243
unfolding basis_row
basis_in r j h = omega (arith, pow3_most (j % 4) (omega arith))

-- one after another
pub basis_less : (r l j : ℕ) → l < j → basis_row r l < basis_row r j
unfolding basis_row
basis_less r l j h = by (ℕ_discrete (l / 4) (j / 4))
  where
    by : Dec (l / 4 ≡ j / 4) → r + (81 * (l / 4) + pow3 (l % 4)) < r + (81 * (j / 4) + pow3 (j % 4))
    by (yes e) = omega (arith, e, pow3_less (l % 4) (j % 4) (omega (arith, e)))
    by (no f) =
        let n : l / 4 < j / 4 = omega (arith, f) in
        omega (arith, n, pow3_most (l % 4) (omega arith), pow3_some (j % 4))
