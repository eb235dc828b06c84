-- Digit fields: their digits are trits, and a row takes in one digit after another. Assumes nothing.
use mathlib.Core.Path.{◌≡◌, ap, ◌∙◌}
use mathlib.Core.Bool.{true, false, and-eq-true_iff}
use mathlib.Core.List.{List}
use Prim.Native.Nat.{ℕ, ◌+◌, ◌-◌, ◌≤◌, ◌<◌}
use native.Mathlib.Omega.{arith}
use borrow.Author.Tests.{lt-ltb, le-ltb}
use lib.Dec.{ltb}
use lib.ListN.{length, get_or}
use Rattle.trits.specs.Trit.{Trit, put_v, up_to, trit_of}
use Rattle.trits.specs.Planes.{trit_at, Reads}
use Rattle.trits.proofs.Ends.{upto_put}
use Rattle.text.specs.Fields.{all_between}
use Rattle.text.specs.Digits.{is_digits, digit_at}
use Rattle.text.proofs.Parting.{all_at}

module _ (f : List ℕ) where
  pub digit_range : is_digits f ≡ true → (i : ℕ) → i < length f → (48 ≤ get_or f i 0) × (get_or f i 0 ≤ 50)
  unfolding is_digits
  digit_range e i h = all_at 48 50 f i h ((and-eq-true_iff (ltb 0 (length f)) (all_between 48 50 f)).0 e).1

  pub digit_put : {o t p q : List ℕ} {n k : ℕ} (i : ℕ) → Reads o t n (up_to i (digit_at f)) → k ≡ n
      → Reads p q k (put_v (trit_at o t) i (trit_of (get_or f i 0 - 48))) → Reads p q n (up_to (i + 1) (digit_at f))
  unfolding digit_at
  digit_put i r e g = record {
    row = g.row;
    size = g.size ∙ e;
    trits = g.trits ∙ ap (λ (u : ℕ → Trit). put_v u i (trit_of (get_or f i 0 - 48))) r.trits ∙ upto_put (digit_at f) i;
  }

  pub digits_none : length f ≡ 0 → false ≡ is_digits f
  unfolding is_digits
  digits_none e = rw (le-ltb 0 (length f) (omega arith))

  pub digits_some : (length f ≡ 0 → ⊥) → all_between 48 50 f ≡ is_digits f
  unfolding is_digits
  digits_some h = rw (lt-ltb 0 (length f) (omega (arith, h)))
