-- What the standard's rules make: a lane rotated by shifts, offsets below 64, a walk that meets each place but (0, 0) once. Assumes nothing.
use mathlib.Core.Path.{◌≡◌, refl, sym, ap, ap₂, ◌∙◌}
use mathlib.Core.Logic.{◌≢◌}
use mathlib.Core.List.{List}
use mathlib.Core.Bool.{Bool, ◌&&◌, cond, true, false, not}
use Prim.Native.Nat.{ℕ, zero, suc, ◌+◌, ◌-◌, ◌*◌, ◌/◌, ◌%◌, ◌^◌, ◌<◌}
use native.Mathlib.Nat.{mod-lt, mod-eq_of_lt, div-eq_of_lt, mul-one, mul-mod_left, add-zero, div-one}
use native.Mathlib.Decide.{ℕ_discrete}
use native.Mathlib.Omega.{arith}
use borrow.Author.Tests.{eqb-true, not-false, eq-eqb, ne_eqb}
use lib.Bits.{bit_or, bit_xor, or_shifted}
use lib.Dec.{eqb, lit<}
use lib.ListN.{get_or}
use mir.Syntax.{w64}
use Rattle.std.specs.Int.{rotate_left}
use Rattle.std.specs.Int.Bits.{or_self}
use lib.Pow.{shl-shr, shr_lt, mod-pow-add}
use Rattle.trits.specs.Trit.{any_to}
use Rattle.trits.proofs.Lists.{get_d_tabulate}
use Rattle.trits.proofs.Tests.{any_none}
use Rattle.keccak.specs.Keccak.{State, rotated, walk, offset_before, offset, iota, register, register_bit, constant_before, round_constant}
use Rattle.keccak.specs.Steps.{constants_of}

-- ---- a lane rotated

pub not_rotated : (lane : ℕ) {k : ℕ} → k ≡ 0 → lane < 2 ^ 64 → lane ≡ rotated lane k
unfolding rotated
not_rotated lane {k} e h =
    sym (ap (λ (i : ℕ). lane * 2 ^ i % 2 ^ 64 + lane / 2 ^ (64 - i)) e
    ∙ ap₂ (λ (a b : ℕ). a + b) (ap (λ (a : ℕ). a % 2 ^ 64) (mul-one lane) ∙ mod-eq_of_lt h) (div-eq_of_lt h) ∙ add-zero lane)

module _ (lane k : ℕ) (hk : k < 64) (h : lane < 2 ^ 64) where
  sum : (64 - k) + k ≡ 64
  sum = omega arith

  -- the bits that stay, moved up
  moved_up : lane * 2 ^ k % 2 ^ 64 ≡ lane % 2 ^ (64 - k) * 2 ^ k
  moved_up =
      ap (λ (i : ℕ). lane * 2 ^ k % 2 ^ i) (sym sum) ∙ mod-pow-add (lane * 2 ^ k) (64 - k) k
      ∙ ap₂ (λ (a b : ℕ). a % 2 ^ (64 - k) * 2 ^ k + b) (shl-shr lane k) (mul-mod_left lane (2 ^ k)) ∙ add-zero (lane % 2 ^ (64 - k) * 2 ^ k)

  -- those that leave come below them
  come_back : lane / 2 ^ (64 - k) < 2 ^ k
  come_back = let e : k + (64 - k) ≡ 64 = omega arith in shr_lt k (64 - k) (rw e h)

  pub rotated_by_shifts : bit_or (lane * 2 ^ k % 2 ^ 64) (lane / 2 ^ (64 - k)) ≡ rotated lane k
  unfolding rotated
  rotated_by_shifts =
      ap (λ (a : ℕ). bit_or a (lane / 2 ^ (64 - k))) moved_up ∙ or_shifted (lane % 2 ^ (64 - k)) k (lane / 2 ^ (64 - k)) come_back
      ∙ ap (λ (a : ℕ). a + lane / 2 ^ (64 - k)) (sym moved_up)

-- both are what the library's rotation makes: at 0 the two are the lane, and else they stand beside each other
pub rotated_left : (lane k : ℕ) → k < 64 → lane < 2 ^ 64 → rotate_left w64 lane k ≡ rotated lane k
rotated_left lane k hk h = by (ℕ_discrete k 0)
  where
    by : Dec (k ≡ 0) → rotate_left w64 lane k ≡ rotated lane k
    by (yes e) =
        let none : bit_or (lane * 1 % 2 ^ 64) (lane / 1) ≡ lane =
        ap₂ bit_or (ap (λ (a : ℕ). a % 2 ^ 64) (mul-one lane) ∙ mod-eq_of_lt h) (div-one lane) ∙ or_self lane in
        ap (λ (i : ℕ). rotate_left w64 lane i) e ∙ none ∙ not_rotated lane e h
    by (no f) =
        let up : k % 64 ≡ k = mod-eq_of_lt hk in
        let back : (64 - k) % 64 ≡ 64 - k = let n : k ≢ 0 = f in omega arith in
        ap (λ (i : ℕ). bit_or (lane * 2 ^ i % 2 ^ 64) (lane / 2 ^ ((64 - i) % 64))) up
        ∙ ap (λ (i : ℕ). bit_or (lane * 2 ^ k % 2 ^ 64) (lane / 2 ^ i)) back
        ∙ rotated_by_shifts lane k hk h

-- ---- the constant comes to one lane alone

module _ (constant : ℕ) (a : State) (x y : ℕ) where
  pub iota_origin : x + y ≡ 0 → bit_xor (a x y) constant ≡ iota constant a x y
  unfolding iota
  iota_origin e = sym (rw (eq-eqb x 0 (omega arith), eq-eqb y 0 (omega arith)))

  pub iota_elsewhere : (x + y ≡ 0 → ⊥) → a x y ≡ iota constant a x y
  unfolding iota
  iota_elsewhere n = by (ℕ_discrete x 0)
    where
      by : Dec (x ≡ 0) → a x y ≡ cond (eqb x 0 && eqb y 0) (bit_xor (a x y) constant) (a x y)
      by (yes e) = sym (rw (eq-eqb x 0 e, ne_eqb y 0 (λ f. n (omega arith))))
      by (no f) = sym (rw (ne_eqb x 0 f))

-- ---- the offsets

one_of : (t : Bool) {a b : ℕ} → a < 64 → b < 64 → cond t a b < 64
one_of true ha hb = ha
one_of false ha hb = hb

before_small : (t x y : ℕ) → offset_before t x y < 64
unfolding offset_before
before_small zero x y = lit< tt
before_small (suc t) x y =
    one_of (eqb x (walk t).x && eqb y (walk t).y) (mod-lt ((t + 1) * (t + 2) / 2) (lit< tt)) (before_small t x y)

pub offset_small : (x y : ℕ) → offset x y < 64
unfolding offset
offset_small x y = before_small 24 x y

-- ---- the standard gives the offset by the step, the definition by the place: they are the same, since no place is met twice

abbrev wrong_at : ℕ → Bool
wrong_at t = not (eqb (offset (walk t).x (walk t).y) ((t + 1) * (t + 2) / 2 % 64))

none_wrong : any_to wrong_at 24 ≡ false
unfolding any_to offset offset_before walk
none_wrong = refl

pub offset_met : (t : ℕ) → t < 24 → offset (walk t).x (walk t).y ≡ (t + 1) * (t + 2) / 2 % 64
offset_met t h =
    eqb-true (offset (walk t).x (walk t).y) ((t + 1) * (t + 2) / 2 % 64)
    (not-false (eqb (offset (walk t).x (walk t).y) ((t + 1) * (t + 2) / 2 % 64)) (any_none 24 wrong_at none_wrong t h))

-- and (0, 0) is met by no step
abbrev pub at_origin : ℕ → Bool
at_origin t = eqb (walk t).x 0 && eqb (walk t).y 0

none_at_origin : any_to at_origin 24 ≡ false
unfolding any_to walk
none_at_origin = refl

pub origin_not_met : (t : ℕ) → t < 24 → at_origin t ≡ false
origin_not_met t h = any_none 24 at_origin none_at_origin t h

-- ---- the round constants

-- that of round 1 is 8082 in hex
second_constant : round_constant 1 ≡ 32898
unfolding round_constant constant_before register_bit register
second_constant = refl

pub constant_at : {table : List ℕ} → table ≡ constants_of → (i : ℕ) → i < 24 → get_or table i 0 ≡ round_constant i
unfolding constants_of
constant_at e i h = ap (λ (l : List ℕ). get_or l i 0) e ∙ get_d_tabulate 24 round_constant i 0 h
