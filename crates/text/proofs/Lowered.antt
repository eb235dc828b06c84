-- A lower bound of key numbers changes what a line says only where its key number is above it (request C-15). Assumes nothing.
use mathlib.Core.Path.{◌≡◌, refl, sym, ap, ◌∙◌}
use mathlib.Core.Bool.{Bool, true, false, ◌&&◌, cond}
use mathlib.Core.List.{List, [], ◌∷◌}
use Prim.Native.Nat.{ℕ, ◌≤◌, ◌<◌}
use native.Mathlib.Decide.{dec_lt}
use native.Mathlib.Omega.{arith}
use borrow.Author.Tests.{le-leb, lt-leb}
use lib.Dec.{leb, ltb}
use lib.ListN.{length}
use Rattle.text.specs.Fields.{fields}
use Rattle.text.specs.Numbers.{is_number, value, in_range}
use Rattle.text.specs.Digits.{is_digits}
use Rattle.text.specs.Forms.{Line, no_form, key_line, row_line, sign_line, one_field, four_fields, most_formula, key_of, row_of, sign_of, is_letter, form_of}
use Rattle.text.specs.Forms.{most_bytes, line_of}
use Rattle.text.specs.AsBefore.{key_number_of, Lowered}

module _ (old new : ℕ) (h : old ≤ new) where
  -- what is the same, and brings no key number above the lower bound
  unmoved : (l : Line) → key_number_of l ≤ old → Lowered old l l
  unmoved l z = record { same = λ e. refl; none = λ f. absurd (omega (arith, z, f)) }

  nothing : Lowered old no_form no_form
  unfolding key_number_of
  nothing = unmoved no_form (omega arith)

  -- a number up to the lower bound is in both ranges or in neither, and any other is not in the lower
  range_same : (f : List ℕ) → value f ≤ old → in_range old f ≡ in_range new f
  unfolding in_range
  range_same f l = ap (λ (t : Bool). is_number f && t) (le-leb (value f) old l ∙ sym (le-leb (value f) new (omega arith)))

  range_above : (f : List ℕ) → old < value f → in_range old f ≡ false
  unfolding in_range
  range_above f l = by (is_number f)
    where
      by : (t : Bool) → (t && leb (value f) old) ≡ false
      by true = lt-leb (value f) old l
      by false = refl

  -- a line with its key number in this field, where three tests of its other fields pass
  module _ (f : List ℕ) (a b c : Bool) (l : Line) (e : key_number_of l ≡ value f) where
    abbrev said : Bool → Line
    said t = cond (t && a && b && c) l no_form

    above : old < value f → (t : Bool) → Lowered old no_form (cond t l no_form)
    above z true = record { same = λ q. absurd (omega (arith, z, q, e)); none = λ q. refl }
    above z false = nothing

    below : value f ≤ old → (t : Bool) → Lowered old (cond t l no_form) (cond t l no_form)
    below z true = unmoved l (omega (arith, z, e))
    below z false = nothing

    picked : Lowered old (said (in_range old f)) (said (in_range new f))
    picked = by (dec_lt old (value f))
      where
        by : Dec (old < value f) → Lowered old (said (in_range old f)) (said (in_range new f))
        by (yes z) = rw (range_above f z) (above z (in_range new f && a && b && c))
        by (no z) = rw (range_same f (omega arith)) (below (omega arith) (in_range new f && a && b && c))

  key_lowered : (number n k w : List ℕ) → Lowered old (key_of old number n k w) (key_of new number n k w)
  unfolding key_of key_number_of
  key_lowered number n k w = picked number (is_number n) (is_number k) (is_number w) (key_line (value number) (value n) (value k) (value w)) refl

  sign_lowered : (number formula y s : List ℕ) → Lowered old (sign_of old number formula y s) (sign_of new number formula y s)
  unfolding sign_of key_number_of
  sign_lowered number formula y s =
      picked number (in_range most_formula formula) (is_digits y) (is_digits s) (sign_line (value number) (value formula) y s) refl

  -- the fields after the letter
  module _ (f g : List ℕ → List ℕ → List ℕ → List ℕ → Line) (z : (a b c d : List ℕ) → Lowered old (f a b c d) (g a b c d)) where
    four_lowered : (rest : List (List ℕ)) → Lowered old (four_fields f rest) (four_fields g rest)
    unfolding four_fields
    four_lowered [] = nothing
    four_lowered (a ∷ []) = nothing
    four_lowered (a ∷ b ∷ []) = nothing
    four_lowered (a ∷ b ∷ c ∷ []) = nothing
    four_lowered (a ∷ b ∷ c ∷ d ∷ []) = z a b c d
    four_lowered (a ∷ b ∷ c ∷ d ∷ e ∷ more) = nothing

  row_unmoved : (rest : List (List ℕ)) → Lowered old (one_field row_of rest) (one_field row_of rest)
  unfolding one_field row_of key_number_of
  row_unmoved [] = nothing
  row_unmoved (a ∷ []) = by (is_digits a)
    where
      by : (t : Bool) → Lowered old (cond t (row_line a) no_form) (cond t (row_line a) no_form)
      by true = unmoved (row_line a) (omega arith)
      by false = nothing
  row_unmoved (a ∷ b ∷ more) = nothing

  form_lowered : (parts : List (List ℕ)) → Lowered old (form_of old parts) (form_of new parts)
  unfolding form_of
  form_lowered [] = nothing
  form_lowered (letter ∷ rest) = by (is_letter 80 letter) (is_letter 75 letter) (is_letter 83 letter)
    where
      by : (p k s : Bool) → Lowered old
          (cond p (four_fields (key_of old) rest) (cond k (one_field row_of rest) (cond s (four_fields (sign_of old) rest) no_form)))
          (cond p (four_fields (key_of new) rest) (cond k (one_field row_of rest) (cond s (four_fields (sign_of new) rest) no_form)))
      by true k s = four_lowered (key_of old) (key_of new) key_lowered rest
      by false true s = row_unmoved rest
      by false false true = four_lowered (sign_of old) (sign_of new) sign_lowered rest
      by false false false = nothing

  -- any line
  pub line_lowered : (line : List ℕ) → Lowered old (line_of old line) (line_of new line)
  unfolding line_of
  line_lowered line = by (ltb most_bytes (length line))
    where
      by : (t : Bool) → Lowered old (cond t no_form (form_of old (fields line))) (cond t no_form (form_of new (fields line)))
      by true = nothing
      by false = form_lowered (fields line)
