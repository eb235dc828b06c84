-- Rows of a matrix: the part that a row is, its trits, and the test of every row. Assumes nothing.
use mathlib.Core.Path.{◌≡◌, sym, ap, ap₂, ◌∙◌, subst}
use mathlib.Core.Logic.{◌⊎◌, inl, inr, ◌≢◌}
use mathlib.Core.Bool.{Bool, false, not, ◌&&◌, ◌||◌, cond, and-false}
use mathlib.Core.List.{List, []}
use Prim.Native.Nat.{ℕ, zero, suc, ◌+◌, ◌*◌, ◌/◌, ◌%◌, ◌^◌, ◌≤◌, ◌<◌}
use native.Mathlib.Nat.{mul-le-mul_right, suc-mul}
use native.Mathlib.Decide.{dec_lt}
use native.Mathlib.Numerals.{add-one}
use mir.Syntax.{w64}
use mir.Val.{Fits}
use lib.Bits.{bit_or, or_shr}
use native.Mathlib.Omega.{arith}
use borrow.Author.Tests.{eq-eqb, ne_eqb, lt-ltb, le-ltb}
use borrow.Rule.Slice.PartMut.{mid_of}
use lib.Dec.{eqb, ltb}
use lib.ListN.{length, get_or, take, drop, length-append}
use lib.Seq.{take_all}
use Rattle.trits.specs.Trit.{t0, any_to}
use Rattle.trits.specs.Planes.{trit_at, words_for, past_end, Row}
use Rattle.trits.specs.Rows.{rows_of, row_part, matrix_at, rows_past_end}
use Rattle.trits.proofs.Reading.{read_past}
use Rattle.trits.proofs.Parts.{length_mid, get_d_mid, part_row, part_trit}
use Rattle.trits.proofs.Tests.{none_any, nonzero_or, past_none, past_last}

-- ---- where rows begin and end

-- row i of m rows ends within them
pub row_le : (w : ℕ) {i m : ℕ} → i < m → i * w + w ≤ m * w
row_le w {i} {m} h = omega (arith, mul-le-mul_right w h, suc-mul i w)

-- two rows share no word
pub rows_apart : (i j w : ℕ) → (i ≡ j → ⊥) → (i * w + w ≤ j * w) ⊎ (j * w + w ≤ i * w)
rows_apart i j w f = by (dec_lt i j)
  where
    by : Dec (i < j) → (i * w + w ≤ j * w) ⊎ (j * w + w ≤ i * w)
    by (yes l) = inl (row_le w l)
    by (no g) = let n : i ≢ j = f in inr (row_le w (omega arith))

-- the words of k rows of w words each
pub length_rows : (f : ℕ → List ℕ) (w : ℕ) → ((i : ℕ) → length (f i) ≡ w) → (k : ℕ) → length (rows_of f k) ≡ k * w
unfolding rows_of
length_rows f w s zero = omega arith
length_rows f w s (suc k) = length-append (rows_of f k) (f k) ∙ omega (arith, length_rows f w s k, s k, suc-mul k w)

-- ---- the part that a row is

module _ (plane : List ℕ) (rows w i : ℕ) where
  pub part_none : rows ≤ i → [] ≡ row_part plane rows w i
  unfolding row_part
  part_none h =
      sym (ap (λ (t : Bool). cond (eqb (length plane) (rows * w) && t) (take w (drop (i * w) plane)) []) (le-ltb i rows h)
      ∙ ap (λ (t : Bool). cond t (take w (drop (i * w) plane)) []) (and-false (eqb (length plane) (rows * w))))

  pub part_wrong : (length plane ≡ rows * w → ⊥) → [] ≡ row_part plane rows w i
  unfolding row_part
  part_wrong f = sym (ap (λ (t : Bool). cond (t && ltb i rows) (take w (drop (i * w) plane)) []) (ne_eqb (length plane) (rows * w) f))

  pub part_there : length plane ≡ rows * w → i < rows → take w (drop (i * w) plane) ≡ row_part plane rows w i
  unfolding row_part
  part_there e h =
      sym (ap₂ (λ (s t : Bool). cond (s && t) (take w (drop (i * w) plane)) []) (eq-eqb (length plane) (rows * w) e) (lt-ltb i rows h))

  pub part_length : length plane ≡ rows * w → i < rows → length (row_part plane rows w i) ≡ w
  part_length e h = ap length (sym (part_there e h)) ∙ length_mid (i * w) w plane (omega (arith, row_le w h))

-- ---- its trits

module _ {ones twos : List ℕ} (rows w i : ℕ) (r : Row ones twos) (e : length ones ≡ rows * w) (h : i < rows) where
  within : i * w + w ≤ length ones
  within = omega (arith, row_le w h)

  twos_size : length twos ≡ rows * w
  twos_size = r.same ∙ e

  -- a row of planes that can be read can be read
  pub part_reads : Row (row_part ones rows w i) (row_part twos rows w i)
  part_reads =
      subst (λ (l : List ℕ). Row l (row_part twos rows w i)) (part_there ones rows w i e h)
      (subst (λ (l : List ℕ). Row (mid_of (i * w) w ones) l) (part_there twos rows w i twos_size h) (part_row r (i * w) w within))

  -- place q of the row handed out is place q of row i of the matrix
  pub part_trits : (q : ℕ) → trit_at (row_part ones rows w i) (row_part twos rows w i) q ≡ matrix_at w ones twos i q
  unfolding matrix_at
  part_trits q = by (dec_lt q (64 * w))
    where
      by : Dec (q < 64 * w) → trit_at (row_part ones rows w i) (row_part twos rows w i) q ≡ cond (ltb q (64 * w)) (trit_at ones twos (64 * (i * w) + q)) t0
      by (yes l) =
          ap₂ (λ (a b : List ℕ). trit_at a b q) (sym (part_there ones rows w i e h)) (sym (part_there twos rows w i twos_size h))
          ∙ part_trit ones twos (i * w) w within (omega (arith, r.same, within)) q l
          ∙ sym (ap (λ (t : Bool). cond t (trit_at ones twos (64 * (i * w) + q)) t0) (lt-ltb q (64 * w) l))
      by (no f) =
          read_past _ _ w q (part_length ones rows w i e h) (part_length twos rows w i twos_size h) (omega arith)
          ∙ sym (ap (λ (t : Bool). cond t (trit_at ones twos (64 * (i * w) + q)) t0) (le-ltb q (64 * w) (omega arith)))

-- ---- a bit past the length, in some row

-- in row i
abbrev pub row_past : List ℕ → List ℕ → ℕ → ℕ → ℕ → Bool
row_past ones twos rows m i = past_end (row_part ones rows (words_for m) i) (row_part twos rows (words_for m) i) m

-- no row has places past a length that fills its words
pub rows_full : (ones twos : List ℕ) (rows m : ℕ) → length ones ≡ rows * words_for m → m % 64 ≡ 0 → false ≡ rows_past_end ones twos rows m
unfolding rows_past_end
rows_full ones twos rows m e z =
    sym (none_any rows (row_past ones twos rows m) (λ i l. sym (past_none _ _ m (part_length ones rows (words_for m) i e l) z)))

-- a turn that gathers the last words of row i, at q of the planes
module _ (ones twos : List ℕ) (rows m i : ℕ) (eo : length ones ≡ rows * words_for m) (et : length twos ≡ rows * words_for m) (h : i < rows)
    (u : m % 64 ≡ 0 → ⊥) where
  last_word : (plane : List ℕ) → length plane ≡ rows * words_for m → get_or (row_part plane rows (words_for m) i) (m / 64) 0
      ≡ get_or plane (i * words_for m + m / 64) 0
  last_word plane e =
      let n : m % 64 ≢ 0 = u in
      ap (λ (l : List ℕ). get_or l (m / 64) 0) (sym (part_there plane rows (words_for m) i e h))
      ∙ get_d_mid (i * words_for m) (words_for m) plane (omega (arith, row_le (words_for m) h)) (m / 64) (omega arith)

  -- it stands within the planes
  pub last_within : {q : ℕ} → q ≡ i * words_for m + m / 64 → q < rows * words_for m
  last_within e = let n : m % 64 ≢ 0 = u in omega (arith, e, row_le (words_for m) h)

  pub gather_turn : {q : ℕ} (x : ℕ) → q ≡ i * words_for m + m / 64 → Fits w64 (get_or ones q 0) → Fits w64 (get_or twos q 0)
      → not (eqb (x / 2 ^ (m % 64)) 0) ≡ any_to (row_past ones twos rows m) i
      → not (eqb (bit_or x (bit_or (get_or ones q 0) (get_or twos q 0)) / 2 ^ (m % 64)) 0) ≡ any_to (row_past ones twos rows m) (i + 1)
  unfolding any_to
  gather_turn {q} x e ho ht p =
      let w = words_for m in
      let fo = last_word ones eo ∙ ap (λ (k : ℕ). get_or ones k 0) (sym e) in
      let ft = last_word twos et ∙ ap (λ (k : ℕ). get_or twos k 0) (sym e) in
      let told = past_last (row_part ones rows w i) (row_part twos rows w i) m (part_length ones rows w i eo h) u
      (subst (λ (k : ℕ). Fits w64 k) (sym fo) ho) (subst (λ (k : ℕ). Fits w64 k) (sym ft) ht) in
      ap (λ (k : ℕ). not (eqb k 0)) (or_shr x (bit_or (get_or ones q 0) (get_or twos q 0)) (m % 64))
      ∙ nonzero_or (x / 2 ^ (m % 64)) (bit_or (get_or ones q 0) (get_or twos q 0) / 2 ^ (m % 64))
      ∙ ap₂ ◌||◌ p (ap₂ (λ (a b : ℕ). not (eqb (bit_or a b / 2 ^ (m % 64)) 0)) (sym fo) (sym ft) ∙ told)
      ∙ ap (any_to (row_past ones twos rows m)) (sym (add-one i))

pub gathered : (ones twos : List ℕ) (rows m i x : ℕ) → i ≡ rows → not (eqb (x / 2 ^ (m % 64)) 0) ≡ any_to (row_past ones twos rows m) i
    → not (eqb (x / 2 ^ (m % 64)) 0) ≡ rows_past_end ones twos rows m
unfolding rows_past_end
gathered ones twos rows m i x p e = e ∙ ap (any_to (row_past ones twos rows m)) p

-- the next row's last word
pub last_next : (i w q k : ℕ) → q ≡ i * w + k → q + w ≡ (i + 1) * w + k
last_next i w q k e = omega (arith, e, suc-mul i w, ap (λ (n : ℕ). n * w) (add-one i))

-- ---- a plane of one row

pub one_row : (plane : List ℕ) (w : ℕ) → length plane ≡ w → row_part plane 1 w 0 ≡ plane
one_row plane w e =
    let z : 0 * w ≡ 0 = omega arith in
    let s : length plane ≡ 1 * w = omega arith in
    sym (part_there plane 1 w 0 s (omega arith)) ∙ ap (λ (n : ℕ). take w (drop n plane)) z ∙ take_all w plane (omega arith)

-- the test of a plane of one row is the row's own
pub one_row_past : (ones twos : List ℕ) (m : ℕ) → length ones ≡ words_for m → length twos ≡ words_for m → rows_past_end ones twos 1 m ≡ past_end ones twos m
unfolding rows_past_end any_to
one_row_past ones twos m o t = ap₂ (λ (a b : List ℕ). past_end a b m) (one_row ones (words_for m) o) (one_row twos (words_for m) t)
