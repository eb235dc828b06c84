-- What the fields of a line say: four fields found or not, numbers in and out of their ranges, and the forms. Assumes nothing.
use mathlib.Core.Path.{◌≡◌, refl, sym, ap, ◌∙◌}
use mathlib.Core.Bool.{Bool, true, false, ◌&&◌, cond, and-false, and-eq-true_iff}
use mathlib.Core.List.{List, [], ◌∷◌}
use Prim.Native.Nat.{ℕ, ◌+◌, ◌≤◌, ◌<◌}
use native.Mathlib.Decide.{dec_lt}
use native.Mathlib.Omega.{arith}
use borrow.Author.Tests.{ne_eqb, le-leb, lt-leb, leb-true, lt-ltb, le-ltb}
use lib.Dec.{leb, ltb}
use lib.ListN.{length, get_or, drop}
use Rattle.std.specs.Prelude.{Option, None, Some, MatchOption}
use Rattle.std.specs.Option.{is_some}
use Rattle.text.specs.declared.forms.Form.{Form}
use Rattle.text.specs.declared.forms.Form.TheVariants.{Key, Row, Sign}
use Rattle.text.specs.Fields.{split, onto, fields, all_between}
use Rattle.text.specs.Numbers.{is_number, value, in_range}
use Rattle.text.specs.Digits.{is_digits}
use Rattle.text.specs.Forms.{no_form, key_line, row_line, sign_line, one_field, four_fields, key_of, row_of, sign_of, is_letter, form_of, line_of, most_formula}
use Rattle.text.specs.Steps.{PartedAt, large, at_most_large, FourOf, NotFour, DigitsOf, bounded}
use Rattle.text.proofs.Parting.{before, fields_more, split_last, some_part}
use Rattle.text.proofs.Numbers.{value_small, value_large}

-- ---- numbers

-- a value that is in reach is itself, and any other counts as large, which is no more than it
bound : (v : ℕ) → (at_most_large v ≤ v) × (at_most_large v ≤ large) × (at_most_large v < large → at_most_large v ≡ v)
bound v = by (dec_lt v large)
  where
    by : Dec (v < large) → (at_most_large v ≤ v) × (at_most_large v ≤ large) × (at_most_large v < large → at_most_large v ≡ v)
    by (yes l) = let e = value_small v l in (omega (arith, e), omega (arith, e), λ h. sym e)
    by (no l) = let e = value_large v (omega arith) in (omega (arith, e), omega (arith, e), λ h. absurd (omega (arith, e, h)))

module _ (f : List ℕ) (most : ℕ) where
  pub range_none : is_number f ≡ false → in_range most f ≡ false
  unfolding in_range
  range_none q = rw q

  module _ {r : ℕ} (q : is_number f ≡ true) (e : r ≡ at_most_large (value f)) where
    pub range_in : most < large → r ≤ most → (in_range most f ≡ true) × (r ≡ value f)
    unfolding in_range
    range_in m h =
        let v : r ≡ value f = e ∙ (bound (value f)).2 (omega (arith, e)) in
        (rw (q, le-leb (value f) most (omega (arith, v))), v)

    pub range_out : most < r → in_range most f ≡ false
    unfolding in_range
    range_out h = rw (q, lt-leb (value f) most (omega (arith, h, e, (bound (value f)).0)))

-- ---- what an answer with a tested variant has said

pub at_some : {A : Type 0} (P : Type 0) (Q : A → Type 0) (o : Option A) → is_some o ≡ true → MatchOption o P Q → (x : A) × Q x
at_some P Q None e m = cc
at_some P Q (Some x) e m = (x, m)

pub at_none : {A : Type 0} (P : Type 0) (Q : A → Type 0) (o : Option A) → is_some o ≡ false → MatchOption o P Q → P
at_none P Q None e m = m
at_none P Q (Some x) e m = cc

-- ---- four fields

module _ {text first rest : List ℕ} (p : PartedAt text first rest) where
  pub two_fields : fields rest ≡ rest ∷ [] → NotFour text
  unfolding four_fields
  two_fields e = λ f. rw (p.are, e)

  module _ {second others : List ℕ} (q : PartedAt rest second others) where
    pub three_fields : fields others ≡ others ∷ [] → NotFour text
    unfolding four_fields
    three_fields e = λ f. rw (p.are, q.are, e)

    module _ {third fourth : List ℕ} (r : PartedAt others third fourth) where
      pub more_fields : {a b : List ℕ} → PartedAt fourth a b → NotFour text
      unfolding four_fields
      more_fields {a} {b} s = λ f. let z = some_part 9 b in rw (p.are, q.are, r.are, s.are, z.2)

      pub are_four : fields fourth ≡ fourth ∷ [] → FourOf text first second third fourth
      are_four e = record {
        are = rw (p.are, q.are, r.are, e);
        third_size = omega (arith, p.size, q.size, r.size);
        fourth_size = omega (arith, p.size, q.size, r.size);
      }

pub single_field : (text : List ℕ) → fields text ≡ text ∷ [] → NotFour text
unfolding four_fields
single_field text e = λ f. rw e

-- ---- P and S

module _ {text a b c d : List ℕ} (f : FourOf text a b c d) (most : ℕ) where
  module _ (q : in_range most a ≡ false) where
    pub key_not_1 : no_form ≡ bounded (four_fields (key_of most) (fields text))
    unfolding four_fields key_of bounded
    key_not_1 = rw (f.are, q)

    pub sign_not_1 : no_form ≡ bounded (four_fields (sign_of most) (fields text))
    unfolding four_fields sign_of bounded
    sign_not_1 = rw (f.are, q)

  module _ (q : in_range most a ≡ true) where
    pub key_not_2 : is_number b ≡ false → no_form ≡ bounded (four_fields (key_of most) (fields text))
    unfolding four_fields key_of bounded
    key_not_2 r = rw (f.are, q, r)

    module _ (r : is_number b ≡ true) where
      pub key_not_3 : is_number c ≡ false → no_form ≡ bounded (four_fields (key_of most) (fields text))
      unfolding four_fields key_of bounded
      key_not_3 s = rw (f.are, q, r, s)

      module _ (s : is_number c ≡ true) where
        pub key_not_4 : is_number d ≡ false → no_form ≡ bounded (four_fields (key_of most) (fields text))
        unfolding four_fields key_of bounded
        key_not_4 t = rw (f.are, q, r, s, t)

        pub key_told : {number n k w : ℕ} → is_number d ≡ true → number ≡ value a → n ≡ at_most_large (value b) → k ≡ at_most_large (value c)
            → w ≡ at_most_large (value d) → key_line number n k w ≡ bounded (four_fields (key_of most) (fields text))
        unfolding four_fields key_of bounded
        key_told t e₁ e₂ e₃ e₄ = rw (f.are, q, r, s, t, ← e₁, ← e₂, ← e₃, ← e₄)

    pub sign_told : {number formula : ℕ} → in_range most_formula b ≡ true → is_digits c ≡ true → is_digits d ≡ true → number ≡ value a
        → formula ≡ value b → sign_line number formula c d ≡ bounded (four_fields (sign_of most) (fields text))
    unfolding four_fields sign_of bounded
    sign_told r s t e₁ e₂ = rw (f.are, q, r, s, t, ← e₁, ← e₂)

  -- one field that is not what it must be is enough
  pub sign_not_2 : in_range most_formula b ≡ false → no_form ≡ bounded (four_fields (sign_of most) (fields text))
  unfolding four_fields sign_of bounded
  sign_not_2 r = rw (f.are, r, and-false (in_range most a))

  pub sign_not_3 : is_digits c ≡ false → no_form ≡ bounded (four_fields (sign_of most) (fields text))
  unfolding four_fields sign_of bounded
  sign_not_3 s = rw (f.are, s, and-false (in_range most a && in_range most_formula b))

  pub sign_not_4 : is_digits d ≡ false → no_form ≡ bounded (four_fields (sign_of most) (fields text))
  unfolding four_fields sign_of bounded
  sign_not_4 t = rw (f.are, t, and-false (in_range most a && in_range most_formula b && is_digits c))

-- the fields are not four
pub not_key : (text : List ℕ) (most : ℕ) → NotFour text → no_form ≡ bounded (four_fields (key_of most) (fields text))
unfolding bounded
not_key text most f = ap bounded (sym (f (key_of most)))

pub not_sign : (text : List ℕ) (most : ℕ) → NotFour text → no_form ≡ bounded (four_fields (sign_of most) (fields text))
unfolding bounded
not_sign text most f = ap bounded (sym (f (sign_of most)))

-- ---- K

-- a tab is no digit
digits_whole : (l : List ℕ) → all_between 48 50 l ≡ true → fields l ≡ l ∷ []
unfolding all_between split onto
digits_whole [] e = refl
digits_whole (b ∷ l) e =
    let p = (and-eq-true_iff (leb 48 b && leb b 50) (all_between 48 50 l)).0 e in
    let h : 48 ≤ b = leb-true 48 b ((and-eq-true_iff (leb 48 b) (leb b 50)).0 p.0).0 in
    rw (ne_eqb b 9 (λ z. omega (arith, h, z)), digits_whole l p.1)

module _ (text : List ℕ) where
  pub row_told : is_digits text ≡ true → row_line text ≡ bounded (one_field row_of (fields text))
  unfolding one_field row_of bounded is_digits
  row_told q = rw (digits_whole text ((and-eq-true_iff (ltb 0 (length text)) (all_between 48 50 text)).0 q).1, q)

  pub row_not : is_digits text ≡ false → no_form ≡ bounded (one_field row_of (fields text))
  unfolding one_field row_of bounded
  row_not q = by (dec_lt (before 9 text) (length text))
    where
      by : Dec (before 9 text < length text) → no_form ≡ bounded (one_field row_of (fields text))
      by (yes h) = let z = some_part 9 (drop (before 9 text + 1) text) in rw (fields_more text h, z.2)
      by (no h) = rw (split_last 9 text (omega arith), q)

-- ---- the letter

-- one byte, which is this letter
letter_is : (l : List ℕ) (b : ℕ) → length l ≡ 1 → get_or l 0 0 ≡ b → l ≡ b ∷ []
letter_is [] b h e = absurd (omega arith)
letter_is (x ∷ []) b h e = ap (λ (j : ℕ). j ∷ []) e
letter_is (x ∷ y ∷ l) b h e = absurd (omega arith)

-- another length, or another byte
no_letter : (l : List ℕ) (b : ℕ) → (length l ≡ 1 → get_or l 0 0 ≡ b → ⊥) → is_letter b l ≡ false
unfolding is_letter
no_letter [] b f = refl
no_letter (x ∷ []) b f = ne_eqb x b (λ e. f refl e)
no_letter (x ∷ y ∷ l) b f = refl

-- a line with no tab
pub form_alone : (most : ℕ) (line : List ℕ) → fields line ≡ line ∷ [] → no_form ≡ bounded (form_of most (fields line))
unfolding form_of four_fields one_field bounded
form_alone most line e = rw e (by (is_letter 80 line) (is_letter 75 line) (is_letter 83 line))
  where
    by : (p k s : Bool) → no_form ≡ bounded (cond p no_form (cond k no_form (cond s no_form no_form)))
    by true k s = refl
    by false true s = refl
    by false false true = refl
    by false false false = refl

module _ (most : ℕ) {line letter rest : List ℕ} (p : PartedAt line letter rest) where
  module _ (h : length letter ≡ 1) where
    pub form_key : get_or letter 0 0 ≡ 80 → bounded (four_fields (key_of most) (fields rest)) ≡ bounded (form_of most (fields line))
    unfolding form_of is_letter
    form_key q = rw (p.are, letter_is letter 80 h q)

    pub form_row : get_or letter 0 0 ≡ 75 → bounded (one_field row_of (fields rest)) ≡ bounded (form_of most (fields line))
    unfolding form_of is_letter
    form_row q = rw (p.are, letter_is letter 75 h q)

    pub form_sign : get_or letter 0 0 ≡ 83 → bounded (four_fields (sign_of most) (fields rest)) ≡ bounded (form_of most (fields line))
    unfolding form_of is_letter
    form_sign q = rw (p.are, letter_is letter 83 h q)

  pub form_none : (length letter ≡ 1 → get_or letter 0 0 ≡ 80 → ⊥) → (length letter ≡ 1 → get_or letter 0 0 ≡ 75 → ⊥)
      → (length letter ≡ 1 → get_or letter 0 0 ≡ 83 → ⊥) → no_form ≡ bounded (form_of most (fields line))
  unfolding form_of bounded
  form_none k r s = rw (p.are, no_letter letter 80 k, no_letter letter 75 r, no_letter letter 83 s)

  -- digits of what follows the letter are digits of the line
  pub digits_rest : (form : Option Form) → DigitsOf (length rest) form → DigitsOf (length line) form
  digits_rest None d = tt
  digits_rest (Some (Key number n k w)) d = tt
  digits_rest (Some (Row digits)) d = record { are_digits = d.are_digits; size = omega (arith, d.size, p.size) }
  digits_rest (Some (Sign number formula y s)) d = (
    record { are_digits = d.0.are_digits; size = omega (arith, d.0.size, p.size) },
    record { are_digits = d.1.are_digits; size = omega (arith, d.1.size, p.size) },
  )

-- ---- the length of a line

pub line_long : (most : ℕ) (line : List ℕ) → 1024 < length line → no_form ≡ bounded (line_of most line)
unfolding line_of bounded
line_long most line h = rw (lt-ltb 1024 (length line) h)

pub line_form : (most : ℕ) (line : List ℕ) → length line ≤ 1024 → bounded (form_of most (fields line)) ≡ bounded (line_of most line)
unfolding line_of
line_form most line h = rw (le-ltb 1024 (length line) h)
