-- Whether a vector has a trit that is 0, told in two ways. Assumes nothing.
use mathlib.Core.Path.{◌≡◌, refl, sym, ap, ◌∙◌}
use mathlib.Core.Bool.{Bool, true, false, not}
use Prim.Native.Nat.{ℕ}
use Rattle.trits.specs.Trit.{is_set, any_to}
use Rattle.matrix.specs.Linear.{Vector}
use Rattle.scheme.specs.Secret.{no_zero, has_zero}

pub no_zero_of : (m : ℕ) (v : Vector) → has_zero m v ≡ false → no_zero m v ≡ true
unfolding has_zero no_zero
no_zero_of m v e = ap not e

pub has_zero_of : (m : ℕ) (v : Vector) → no_zero m v ≡ true → has_zero m v ≡ false
unfolding has_zero no_zero
has_zero_of m v e = by (has_zero m v) refl e
  where
    by : (t : Bool) → any_to (λ i. not (is_set (v i))) m ≡ t → not (any_to (λ i. not (is_set (v i))) m) ≡ true → any_to (λ i. not (is_set (v i))) m ≡ false
    by true q h = q ∙ sym (ap not (sym q) ∙ h)
    by false q h = q
