-- A check's refusal looks at the working space's lengths alone. Assumes nothing.
use mathlib.Core.Path.{◌≡◌, ap₂}
use mathlib.Core.List.{List}
use Prim.Native.Nat.{ℕ}
use lib.ListN.{length}
use Rattle.trits.specs.Refusal.{first}
use Rattle.held_key.specs.declared.state.Held.{Held}
use Rattle.check_tests.specs.Check.{call_refusal, planes_lengths, planes_contents, packed_lengths, packed_contents}
use Rattle.check_tests.specs.Check.{check_of, check_refusal, check_refusal_under, packed_check_of, check_packed_refusal, check_packed_refusal_under}

module _ (h : Held) (number : ℕ) (ones twos : List ℕ) where
  pub check_spaces : (yo yt so st a b c d : List ℕ) → length a ≡ length c → length b ≡ length d
      → check_refusal (check_of h number ones twos yo yt so st a b) ≡ check_refusal (check_of h number ones twos yo yt so st c d)
  unfolding check_refusal_under
  check_spaces yo yt so st a b c d e f =
      let rest = first (planes_lengths h (length yo) (length yt) (length so) (length st)) (planes_contents h ones twos yo yt so st) in
      ap₂ (λ (x y : ℕ). first (call_refusal h number (length ones) (length twos) x y) rest) e f

  pub packed_spaces : (y s a b c d : List ℕ) → length a ≡ length c → length b ≡ length d
      → check_packed_refusal (packed_check_of h number ones twos y s a b) ≡ check_packed_refusal (packed_check_of h number ones twos y s c d)
  unfolding check_packed_refusal_under
  packed_spaces y s a b c d e f =
      let rest = first (packed_lengths h (length y) (length s)) (packed_contents h ones twos y s) in
      ap₂ (λ (x y : ℕ). first (call_refusal h number (length ones) (length twos) x y) rest) e f
