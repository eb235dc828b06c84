-- Products of trits, sixty-four at a time, and their sum modulo 3 from two counts. Assumes nothing.
use mathlib.Core.Path.{◌≡◌, refl, sym, ap, ap₂, ◌∙◌}
use mathlib.Core.List.{List}
use Prim.Native.Nat.{ℕ, zero, suc, ◌+◌, ◌*◌, ◌%◌, ◌^◌, ◌≤◌, ◌<◌}
use native.Mathlib.Omega.{arith}
use lib.ListN.{get_or}
use mir.Syntax.{w64}
use mir.Val.{Fits}
use lib.Bits.{and_lt, or_lt}
use lib.Count.{ones, ones-le}
use Rattle.trits.specs.Trit.{Trit, t0, t1, t2, add_t, mul_t, number, trit_of, one, two, sum_to, ones_v, twos_v, dot_v, zip_v}
use Rattle.trits.specs.Planes.{trit_at, Apart}
use Rattle.trits.proofs.Reading.{trit_at_place}
use Rattle.trits.proofs.WordOps.{mul_ones, mul_twos, mul_op, op_ones, op_twos}
use Rattle.trits.proofs.Counting.{count_word}
use Rattle.trits.proofs.Arithmetic.{trit_of_add, number_trit_of}

coded_number : (x : Trit) → trit_of (one x + 2 * two x) ≡ x
coded_number t0 = refl
coded_number t1 = refl
coded_number t2 = refl

-- where every product is 0
pub dot_zero : (n : ℕ) (u v : ℕ → Trit) → ((i : ℕ) → i < n → mul_t (u i) (v i) ≡ t0) → dot_v u v n ≡ t0
unfolding dot_v
dot_zero zero u v h = refl
dot_zero (suc n) u v h = ap₂ add_t (dot_zero n u v (λ i k. h i (omega arith))) (h n (omega arith))

pub dot_counts : (u v : ℕ → Trit) (m : ℕ) → trit_of (ones_v (zip_v mul_t u v) m + 2 * twos_v (zip_v mul_t u v) m) ≡ dot_v u v m
unfolding sum_to dot_v
dot_counts u v zero = refl
dot_counts u v (suc m) =
    let x = mul_t (u m) (v m) in
    let a = ones_v (zip_v mul_t u v) m in
    let b = twos_v (zip_v mul_t u v) m in
    let e : (a + one x) + 2 * (b + two x) ≡ (a + 2 * b) + (one x + 2 * two x) = omega arith in
    ap trit_of e ∙ trit_of_add (a + 2 * b) (one x + 2 * two x) ∙ ap₂ add_t (dot_counts u v m) (coded_number x)

pub dot_number : (u v : ℕ → Trit) (m s d : ℕ) → s ≡ ones_v (zip_v mul_t u v) m → d ≡ twos_v (zip_v mul_t u v) m → (s + 2 * d) % 3 ≡ number (dot_v u v m)
dot_number u v m s d p q =
    sym (number_trit_of (s + 2 * d)) ∙ ap₂ (λ (x y : ℕ). number (trit_of (x + 2 * y))) p q ∙ ap number (dot_counts u v m)

-- what is known in a turn: the planes are apart, and their words i are words
pub record Known (uo ut vo vt : List ℕ) (i : ℕ) : Type 0 where
  pub ua : Apart uo ut
  pub va : Apart vo vt
  pub ha : Fits w64 (get_or uo i 0)
  pub hb : Fits w64 (get_or ut i 0)
  pub hc : Fits w64 (get_or vo i 0)
  pub hd : Fits w64 (get_or vt i 0)

module _ {uo ut vo vt : List ℕ} {i : ℕ} (k : Known uo ut vo vt i) where
  same_lt : mul_ones (get_or uo i 0) (get_or ut i 0) (get_or vo i 0) (get_or vt i 0) < 2 ^ 64
  same_lt = or_lt 64 _ _ (and_lt 64 _ _ k.ha.fits k.hc.fits) (and_lt 64 _ _ k.hb.fits k.hd.fits)

  other_lt : mul_twos (get_or uo i 0) (get_or ut i 0) (get_or vo i 0) (get_or vt i 0) < 2 ^ 64
  other_lt = or_lt 64 _ _ (and_lt 64 _ _ k.ha.fits k.hd.fits) (and_lt 64 _ _ k.hb.fits k.hc.fits)

  pub same_le : ones (mul_ones (get_or uo i 0) (get_or ut i 0) (get_or vo i 0) (get_or vt i 0)) ≤ 64
  same_le = ones-le 64 _ same_lt

  pub other_le : ones (mul_twos (get_or uo i 0) (get_or ut i 0) (get_or vo i 0) (get_or vt i 0)) ≤ 64
  other_le = ones-le 64 _ other_lt

  pub same_turn : (s : ℕ) → s ≡ ones_v (zip_v mul_t (trit_at uo ut) (trit_at vo vt)) (64 * i)
      → s + ones (mul_ones (get_or uo i 0) (get_or ut i 0) (get_or vo i 0) (get_or vt i 0))
      ≡ ones_v (zip_v mul_t (trit_at uo ut) (trit_at vo vt)) (64 * (i + 1))
  same_turn s =
      count_word (λ p. one (mul_t (trit_at uo ut p) (trit_at vo vt p))) i _ s same_lt (λ b h.
      op_ones mul_op (get_or uo i 0) (get_or ut i 0) (get_or vo i 0) (get_or vt i 0) (k.ua.word i) (k.va.word i) b
      ∙ ap₂ (λ (x y : Trit). one (mul_t x y)) (sym (trit_at_place i b h uo ut)) (sym (trit_at_place i b h vo vt)))

  pub other_turn : (s : ℕ) → s ≡ twos_v (zip_v mul_t (trit_at uo ut) (trit_at vo vt)) (64 * i)
      → s + ones (mul_twos (get_or uo i 0) (get_or ut i 0) (get_or vo i 0) (get_or vt i 0))
      ≡ twos_v (zip_v mul_t (trit_at uo ut) (trit_at vo vt)) (64 * (i + 1))
  other_turn s =
      count_word (λ p. two (mul_t (trit_at uo ut p) (trit_at vo vt p))) i _ s other_lt (λ b h.
      op_twos mul_op (get_or uo i 0) (get_or ut i 0) (get_or vo i 0) (get_or vt i 0) (k.ua.word i) (k.va.word i) b
      ∙ ap₂ (λ (x y : Trit). two (mul_t x y)) (sym (trit_at_place i b h uo ut)) (sym (trit_at_place i b h vo vt)))
