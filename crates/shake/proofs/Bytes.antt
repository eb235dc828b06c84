-- Bytes as numbers, and the bytes of the padded message. Assumes nothing.
use mathlib.Core.Path.{◌≡◌, refl, sym, ap, ◌∙◌}
use mathlib.Core.List.{List, [], ◌++◌}
use Prim.Native.Nat.{ℕ, ◌+◌, ◌*◌, ◌/◌, ◌≤◌, ◌<◌}
use native.Mathlib.Omega.{arith}
use borrow.Author.Tests.{eq-eqb, ne_eqb}
use lib.ListN.{length, get_or, take, drop, replicate, length-append, get_or-append, get_or-eq_default}
use lib.Seq.{get_or-take, get_or-drop, get_or-append-add}
use Rattle.trits.proofs.Lists.{get_d_tabulate}
use Rattle.shake.specs.Shake.{rate, blocks_of, padded_byte}
use Rattle.shake.specs.Steps.{pad_of, block_from}

-- ---- the padding, worked out: of no byte, of 135, which leave one place in their block, and of 136, which leave none

abbrev Padding : ℕ → ℕ → ℕ → Type 0
Padding size i byte = padded_byte (replicate size 0) i ≡ byte

padding_of_none : (blocks_of [] ≡ 1) × Padding 0 0 31 × Padding 0 1 0 × Padding 0 135 128
unfolding blocks_of padded_byte
padding_of_none = (refl, refl, refl, refl)

padding_of_135 : (blocks_of (replicate 135 0) ≡ 1) × Padding 135 134 0 × Padding 135 135 159
unfolding blocks_of padded_byte
padding_of_135 = (refl, refl, refl)

padding_of_136 : (blocks_of (replicate 136 0) ≡ 2) × Padding 136 135 0 × Padding 136 136 31 × Padding 136 271 128
unfolding blocks_of padded_byte
padding_of_136 = (refl, refl, refl, refl)

-- ---- the padded message

module _ (message : List ℕ) (i : ℕ) where
  ends_later : length message < rate * blocks_of message
  unfolding blocks_of
  ends_later = omega arith

  pub padded_inside : i < length message → padded_byte message i ≡ get_or message i 0
  unfolding padded_byte
  padded_inside h =
      rw (ne_eqb i (length message) (λ e. omega arith), ne_eqb (i + 1) (rate * blocks_of message) (λ e. omega (arith, ends_later)))
      (omega arith)

  pub padded_past : length message ≤ i → padded_byte message i ≡ pad_of (length message) i
  unfolding padded_byte pad_of blocks_of
  padded_past h = rw (get_or-eq_default message 0 h) (omega arith)

-- a message in two parts
module _ (first last : List ℕ) where
  pub parts_size : length (first ++ last) ≡ length first + length last
  parts_size = length-append first last

  pub in_first : (i : ℕ) → i < length first → get_or first i 0 ≡ padded_byte (first ++ last) i
  in_first i h = sym (padded_inside (first ++ last) i (omega (arith, parts_size)) ∙ get_or-append first last 0 i h)

  pub in_last : (i at : ℕ) → i ≡ length first + at → at < length last → get_or last at 0 ≡ padded_byte (first ++ last) i
  in_last i at e h =
      sym (padded_inside (first ++ last) i (omega (arith, parts_size)) ∙ ap (λ (k : ℕ). get_or (first ++ last) k 0) e ∙ get_or-append-add first last at 0)

  pub in_padding : (i : ℕ) → length first + length last ≤ i → pad_of (length first + length last) i ≡ padded_byte (first ++ last) i
  in_padding i h = ap (λ (k : ℕ). pad_of k i) (sym parts_size) ∙ sym (padded_past (first ++ last) i (omega (arith, parts_size)))

  -- a block that lies in the last part
  pub block_in_last : (start at n : ℕ) → start ≡ length first + at → n ≡ rate → at + rate ≤ length last → (i : ℕ) → i < rate
      → get_or (take n (drop at last)) i 0 ≡ padded_byte (first ++ last) (start + i)
  block_in_last start at n e r h i l =
      get_or-take n (drop at last) i 0 (omega arith) ∙ get_or-drop at last i 0 ∙ in_last (start + i) (at + i) (omega arith) (omega arith)

-- ---- what the padding puts

module _ (size i : ℕ) where
  pub pad_both : i + 1 ≡ rate * (size / rate + 1) → i ≡ size → 31 + 128 ≡ pad_of size i
  unfolding pad_of
  pad_both e f = sym (rw (eq-eqb i size f, eq-eqb (i + 1) (rate * (size / rate + 1)) e))

  pub pad_last : i + 1 ≡ rate * (size / rate + 1) → (i ≡ size → ⊥) → 128 ≡ pad_of size i
  unfolding pad_of
  pad_last e f = sym (rw (ne_eqb i size f, eq-eqb (i + 1) (rate * (size / rate + 1)) e))

  pub pad_first : (i + 1 ≡ rate * (size / rate + 1) → ⊥) → i ≡ size → 31 ≡ pad_of size i
  unfolding pad_of
  pad_first e f = sym (rw (eq-eqb i size f, ne_eqb (i + 1) (rate * (size / rate + 1)) e))

  pub pad_none : (i + 1 ≡ rate * (size / rate + 1) → ⊥) → (i ≡ size → ⊥) → 0 ≡ pad_of size i
  unfolding pad_of
  pad_none e f = sym (rw (ne_eqb i size f, ne_eqb (i + 1) (rate * (size / rate + 1)) e))

-- ---- a block written out

pub block_written : (message : List ℕ) (start n : ℕ) {block : List ℕ} → block ≡ block_from message start n → (i : ℕ) → i < n
    → get_or block i 0 ≡ padded_byte message (start + i)
unfolding block_from
block_written message start n e i l = ap (λ (b : List ℕ). get_or b i 0) e ∙ get_d_tabulate n (λ k. padded_byte message (start + k)) i 0 l
