-- Numbers: the value of digits, digit by digit, and a value too large for any range. Assumes nothing.
use mathlib.Core.Path.{◌≡◌, refl, sym, ap, ◌∙◌}
use mathlib.Core.Bool.{false}
use mathlib.Core.List.{List, [], ◌∷◌}
use Prim.Native.Nat.{ℕ, ◌+◌, ◌-◌, ◌*◌, ◌≤◌, ◌<◌}
use native.Mathlib.Nat.{le_refl}
use native.Mathlib.Numerals.{add-one}
use native.Mathlib.Omega.{arith}
use borrow.Author.Tests.{lt-ltb, le-ltb, eq-eqb, ne_eqb}
use lib.ListN.{length, get_or, drop, drop_of_length-le}
use lib.Seq.{drop-cons}
use Rattle.text.specs.Numbers.{value_from, is_number}
use Rattle.text.specs.Fields.{all_between}
use Rattle.text.specs.Steps.{at_most_large, large}

-- digits make no value smaller
pub value_le : (l : List ℕ) (v : ℕ) → v ≤ value_from v l
unfolding value_from
value_le [] v = le_refl v
value_le (b ∷ l) v = omega (arith, value_le l (10 * v + (b - 48)))

module _ (l : List ℕ) (i : ℕ) where
  pub value_next : (v : ℕ) → i < length l → value_from v (drop i l) ≡ value_from (10 * v + (get_or l i 0 - 48)) (drop (i + 1) l)
  unfolding value_from
  value_next v h = ap (value_from v) (drop-cons l i 0 h ∙ ap (λ (j : ℕ). get_or l i 0 ∷ drop j l) (sym (add-one i)))

  pub value_end : (v : ℕ) → length l ≤ i → value_from v (drop i l) ≡ v
  unfolding value_from
  value_end v h = ap (value_from v) (drop_of_length-le l {i = i} h)

pub value_small : (v : ℕ) → v < large → v ≡ at_most_large v
unfolding at_most_large
value_small v h = rw (lt-ltb v large h)

pub value_large : (v : ℕ) → large ≤ v → large ≡ at_most_large v
unfolding at_most_large
value_large v h = rw (le-ltb v large h)

-- ---- whether a field is a number

pub number_none : (l : List ℕ) → length l ≡ 0 → false ≡ is_number l
unfolding is_number
number_none [] e = refl
number_none (b ∷ l) e = absurd (omega arith)

pub number_one : (l : List ℕ) → length l ≡ 1 → all_between 48 57 l ≡ is_number l
unfolding is_number
number_one [] e = absurd (omega arith)
number_one (b ∷ []) e = refl
number_one (b ∷ c ∷ l) e = absurd (omega arith)

pub number_zero : (l : List ℕ) → (length l ≡ 1 → ⊥) → get_or l 0 0 ≡ 48 → false ≡ is_number l
unfolding is_number
number_zero [] h e = refl
number_zero (b ∷ []) h e = absurd (h refl)
number_zero (b ∷ c ∷ l) h e = rw (eq-eqb b 48 e)

pub number_more : (l : List ℕ) → (length l ≡ 0 → ⊥) → (length l ≡ 1 → ⊥) → (get_or l 0 0 ≡ 48 → ⊥) → all_between 48 57 l ≡ is_number l
unfolding is_number
number_more [] h k f = absurd (h refl)
number_more (b ∷ []) h k f = absurd (k refl)
number_more (b ∷ c ∷ l) h k f = rw (ne_eqb b 48 f)
