-- The tables' entries for the row's trits, taken from it, clear it at the twelve columns (`three_less`).
-- Assumes nothing.
use Prim.Native.Nat.{ℕ, ◌+◌, ◌*◌, ◌/◌, ◌%◌, ◌^◌, ◌≤◌, ◌<◌}
use mathlib.Core.List.{List}
use mathlib.Core.Path.{◌≡◌, ap, ap₂, ◌∙◌}
use native.Mathlib.Omega.{arith}
use Rattle.trits.specs.Planes.{Row}
use Rattle.trits.specs.Rows.{matrix_at}
use Rattle.matrix.specs.Linear.{Vector, Matrix}
use Rattle.matrix.specs.Blocks.{base3}
use Rattle.grid.specs.Steps.{put_row}
use Rattle.grid.proofs.Cells.{grid_to}
use Rattle.tables.specs.Steps.{Twelve, digit_pairs}
use Rattle.tables.proofs.Numbers.{first_entry, second_entry, third_entry, four_lt}
use Rattle.tables.proofs.Takes.{three_less}
use Rattle.tables.proofs.tables.take_entries.Goals as goal

-- the number of four trits of row i, from column k on
abbrev Entry : Matrix → ℕ → ℕ → ℕ → Type 0
Entry m i k e = (e ≡ base3 (λ j. m i (k + j)) 4) × (e < 81)

entry_is : (m : Matrix) (i k e : ℕ) → e ≡ base3 (λ j. m i (k + j)) 4 → Entry m i k e
entry_is m i k e h = (h, omega (arith, four_lt (λ j. m i (k + j))))

-- the twelve bits of both planes make the three entries
entries : {o t : List ℕ} (w : ℕ) → Row o t → (i c : ℕ) → c + 12 ≤ 64 * w → {x y a b e g h : ℕ} → Twelve o (64 * (i * w) + c) x
    → Twelve t (64 * (i * w) + c) y → a ≡ digit_pairs x + 2 * digit_pairs y → b ≡ digit_pairs (x / 2 ^ 2) + 2 * digit_pairs (y / 2 ^ 2)
    → e ≡ a % 16 + 9 * (b % 16) → g ≡ a / 2 ^ 4 % 16 + 9 * (b / 2 ^ 4 % 16) → h ≡ a / 2 ^ 8 % 16 + 9 * (b / 2 ^ 8 % 16)
    → Entry (matrix_at w o t) i c e × Entry (matrix_at w o t) i (c + 4) g × Entry (matrix_at w o t) i (c + 8) h
entries {o} {t} w r i c l {e = e} {g} {h} x y a b p q s = (
  entry_is (matrix_at w o t) i c e (p ∙ ap₂ (λ (m n : ℕ). m % 16 + 9 * (n % 16)) a b ∙ first_entry w r i c l x y),
  entry_is (matrix_at w o t) i (c + 4) g (q ∙ ap₂ (λ (m n : ℕ). m / 2 ^ 4 % 16 + 9 * (n / 2 ^ 4 % 16)) a b ∙ second_entry w r i c l x y),
  entry_is (matrix_at w o t) i (c + 8) h (s ∙ ap₂ (λ (m n : ℕ). m / 2 ^ 8 % 16 + 9 * (n / 2 ^ 8 % 16)) a b ∙ third_entry w r i c l x y),
)

pub sub_three-requires : goal.sub_three-requires
sub_three-requires c =
    let p = c.requires.clears in
    let n = entries c.args.w p.grid.row c.args.i c.args.c p.columns c.twelve_from-x.ensures c.twelve_from-y.ensures c.numbers-a.ensures c.numbers-b.ensures
    c.entry-e.ensures c.entry-g.ensures c.entry-h.ensures in
    record {
      grid = p.grid;
      width = p.width;
      i_in = omega (arith, p.end, p.room);
      a_in = omega (arith, n.0.1, p.room);
      b_in = omega (arith, n.1.1, p.room);
      c_in = omega (arith, n.2.1, p.room);
      a_apart = λ z. omega (arith, p.end);
      b_apart = λ z. omega (arith, p.end);
      c_apart = λ z. omega (arith, p.end);
    }

pub returns : goal.returns
returns c =
    let a = c.args in
    let p = c.requires.clears in
    let n = entries a.w p.grid.row a.i a.c p.columns c.twelve_from-x.ensures c.twelve_from-y.ensures c.numbers-a.ensures c.numbers-b.ensures
    c.entry-e.ensures c.entry-g.ensures c.entry-h.ensures in
    grid_to c.sub_three.ensures
    (ap (λ (v : Vector). put_row a.i v (matrix_at a.w a.ones.now a.twos.now))
    (three_less c.requires.tabled n.0.1 n.1.1 n.2.1 a.c a.i n.0.0 n.1.0 n.2.0 p.outside))
