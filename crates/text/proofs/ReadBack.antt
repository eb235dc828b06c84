-- A number that is printed reads back as itself: no two key numbers print alike, however many digits they have. Assumes nothing.
use mathlib.Core.Path.{◌≡◌, refl, sym, subst, ◌∙◌}
use mathlib.Core.Bool.{true, ◌&&◌, and-eq-true_iff}
use mathlib.Core.List.{List, [], ◌∷◌, ◌++◌}
use Prim.Native.Nat.{ℕ, zero, suc, ◌+◌, ◌-◌, ◌*◌, ◌/◌, ◌%◌, ◌≤◌, ◌<◌}
use native.Mathlib.Decide.{dec_lt}
use native.Mathlib.Omega.{arith}
use borrow.Author.Tests.{le-leb}
use lib.Dec.{leb}
use lib.ListN.{length, get_or, length-append}
use Rattle.text.specs.Fields.{all_between}
use Rattle.text.specs.Numbers.{is_number, value_from, value, decimal}
use Rattle.text.proofs.Numbers.{number_one, number_more}
use Rattle.text.proofs.Written.{decimal_small, decimal_more}

-- ---- one digit more at the end

value_last : (l : List ℕ) (v b : ℕ) → value_from v (l ++ (b ∷ [])) ≡ 10 * value_from v l + (b - 48)
unfolding value_from
value_last [] v b = refl
value_last (x ∷ l) v b = value_last l (10 * v + (x - 48)) b

digits_last : (l : List ℕ) (b : ℕ) → all_between 48 57 l ≡ true → 48 ≤ b → b ≤ 57 → all_between 48 57 (l ++ (b ∷ [])) ≡ true
unfolding all_between
digits_last [] b e p q = rw (le-leb 48 b p, le-leb b 57 q)
digits_last (x ∷ l) b e p q =
    let s = (and-eq-true_iff (leb 48 x && leb x 57) (all_between 48 57 l)).0 e in
    rw (s.0, digits_last l b s.1 p q)

first_same : (l : List ℕ) (b : ℕ) → 1 ≤ length l → get_or (l ++ (b ∷ [])) 0 0 ≡ get_or l 0 0
first_same [] b h = absurd (omega arith)
first_same (x ∷ l) b h = refl

-- ---- a number as it is printed: digits, the first of them not 0 unless it stands alone

record Printed (n : ℕ) (l : List ℕ) : Type 0 where
  digits : all_between 48 57 l ≡ true
  some : 1 ≤ length l
  front : 1 ≤ n → get_or l 0 0 ≡ 48 → ⊥
  field : is_number l ≡ true
  means : value l ≡ n

one_digit : (n : ℕ) → n < 10 → Printed n ((48 + n) ∷ [])
unfolding all_between value value_from
one_digit n h =
    let d = digits_last [] (48 + n) refl (omega arith) (omega arith) in record {
      digits = d;
      some = omega arith;
      front = λ z e. omega (arith, z, e);
      field = sym (number_one ((48 + n) ∷ []) refl) ∙ d;
      means = omega arith;
    }

more_digits : (n : ℕ) (l : List ℕ) → 10 ≤ n → Printed (n / 10) l → Printed n (l ++ ((48 + n % 10) ∷ []))
unfolding value
more_digits n l h p =
    let last = 48 + n % 10 in
    let d = digits_last l last p.digits (omega arith) (omega arith) in
    let size = length-append l (last ∷ []) in
    let f : get_or (l ++ (last ∷ [])) 0 0 ≡ 48 → ⊥ = λ q. p.front (omega arith) (sym (first_same l last p.some) ∙ q) in
    record {
      digits = d;
      some = omega (arith, size);
      front = λ z. f;
      field = sym (number_more (l ++ (last ∷ [])) (λ q. omega (arith, size, q)) (λ q. omega (arith, size, p.some, q)) f) ∙ d;
      means = value_last l 0 last ∙ omega (arith, p.means);
    }

printed_up_to : (most n : ℕ) → n < most → Printed n (decimal n)
printed_up_to zero n h = absurd (omega arith)
printed_up_to (suc most) n h = by (dec_lt n 10) (λ z. printed_up_to most (n / 10) (omega (arith, z, h)))
  where
    by : Dec (n < 10) → (10 ≤ n → Printed (n / 10) (decimal (n / 10))) → Printed n (decimal n)
    by (yes z) f = subst (Printed n) (decimal_small n z) (one_digit n z)
    by (no z) f = subst (Printed n) (decimal_more n (omega arith)) (more_digits n (decimal (n / 10)) (omega arith) (f (omega arith)))

-- ---- read back

pub decimal_number : (n : ℕ) → is_number (decimal n) ≡ true
decimal_number n = (printed_up_to (suc n) n (omega arith)).field

pub decimal_value : (n : ℕ) → value (decimal n) ≡ n
decimal_value n = (printed_up_to (suc n) n (omega arith)).means
