-- The stretch that is a row of the held key. Assumes nothing.
use mathlib.Core.Path.{◌≡◌, sym, ap, ◌∙◌, subst₂}
use mathlib.Core.Bool.{false, true}
use mathlib.Core.List.{List, []}
use Prim.Native.Nat.{ℕ, ◌*◌, ◌≤◌, ◌<◌}
use native.Mathlib.Omega.{arith}
use lib.ListN.{length, take, drop}
use borrow.Author.Tests.{lt-ltb, le-ltb}
use Rattle.trits.specs.Trit.{t0}
use Rattle.trits.specs.Planes.{past_end, Row}
use Rattle.trits.specs.Rows.{row_part, rows_past_end}
use Rattle.trits.proofs.Matrix.{part_there, part_length, part_reads}
use Rattle.trits.proofs.Tests.{any_none, past_zero}
use Rattle.held_key.specs.declared.state.Held.{Held}
use Rattle.held_key.specs.Held.{sound, row_trits, row_words, key_words, held_row, held_row_under, held_key, held_key_under}
use Rattle.held_key.specs.Steps.{Whole}

module _ (h : Held) (plane : List ℕ) (i : ℕ) where
  pub row_unsound : sound h ≡ false → [] ≡ held_row h plane i
  unfolding held_row_under
  row_unsound e = rw e

  pub row_missing : sound h ≡ true → h.rows ≤ i → [] ≡ held_row h plane i
  unfolding held_row_under
  row_missing e l = rw (e, le-ltb i h.rows l)

  pub row_stored : sound h ≡ true → i < h.rows → row_part plane h.k (row_words h) i ≡ held_row h plane i
  unfolding held_row_under
  row_stored e l = rw (e, lt-ltb i h.rows l)

  pub row_there : sound h ≡ true → length plane ≡ key_words h → i < h.rows → h.rows ≤ h.k
      → take (row_words h) (drop (i * row_words h) plane) ≡ held_row h plane i
  row_there e f l b = part_there plane h.k (row_words h) i f (omega arith) ∙ row_stored e l

-- a row of a whole key
module _ {h : Held} {ones twos : List ℕ} (w : Whole h ones twos) (i : ℕ) (l : i < h.k) where
  pub ones_row : row_part ones h.k (row_words h) i ≡ held_row h ones i
  ones_row = row_stored h ones i w.is_sound (omega (arith, w.all_rows))

  pub twos_row : row_part twos h.k (row_words h) i ≡ held_row h twos i
  twos_row = row_stored h twos i w.is_sound (omega (arith, w.all_rows))

  pub ones_length : length (held_row h ones i) ≡ row_words h
  ones_length = sym (ap length ones_row) ∙ part_length ones h.k (row_words h) i w.ones_size l

  pub twos_length : length (held_row h twos i) ≡ row_words h
  twos_length = sym (ap length twos_row) ∙ part_length twos h.k (row_words h) i w.twos_size l

  -- it can be read
  pub row_row : Row ones twos → Row (held_row h ones i) (held_row h twos i)
  row_row r = subst₂ Row ones_row twos_row (part_reads h.k (row_words h) i r w.ones_size l)

  -- a place past its length is 0
  pub row_past : rows_past_end ones twos h.k (row_trits h) ≡ false → (q : ℕ) → row_trits h ≤ q → held_key h ones twos i q ≡ t0
  unfolding rows_past_end held_key_under
  row_past e q a =
      let p = any_none h.k (λ i. past_end (row_part ones h.k (row_words h) i) (row_part twos h.k (row_words h) i) (row_trits h)) e i l in
      past_zero (held_row h ones i) (held_row h twos i) (row_trits h) (twos_length ∙ sym ones_length)
      (subst₂ (λ (x y : List ℕ). past_end x y (row_trits h) ≡ false) ones_row twos_row p) q a
