-- States that agree at the 25 places, and the five arrays of a state read back. Assumes nothing.
use mathlib.Core.Path.{◌≡◌, refl, sym, ap, ◌∙◌}
use mathlib.Core.List.{List, []}
use Prim.Native.Nat.{ℕ, zero, suc, ◌+◌, ◌*◌, ◌%◌, ◌<◌}
use native.Mathlib.Nat.{mod-lt}
use native.Mathlib.Numerals.{add-one}
use native.Mathlib.Omega.{arith}
use lib.Dec.{lit<}
use lib.ListN.{get_or}
use Rattle.keccak.specs.Keccak.{State, parity, two_parities, theta, rho, pi, chi, iota, round, rounds_before, round_constant, permuted}
use Rattle.keccak.specs.Lanes.{lane_at, sheet_of, lanes_of}

abbrev pub Same : State → State → Type 0
Same a b = (x y : ℕ) → x < 5 → y < 5 → a x y ≡ b x y

-- a number below 5 is one of five
pub each_of_five : (P : ℕ → Type 0) → P 0 → P 1 → P 2 → P 3 → P 4 → (n : ℕ) → n < 5 → P n
each_of_five P a b c d e zero h = a
each_of_five P a b c d e (suc zero) h = b
each_of_five P a b c d e (suc (suc zero)) h = c
each_of_five P a b c d e (suc (suc (suc zero))) h = d
each_of_five P a b c d e (suc (suc (suc (suc zero)))) h = e
each_of_five P a b c d e (suc (suc (suc (suc (suc n))))) h = absurd (omega arith)

-- ---- the arrays of a state

sheet_lane : (s : State) (x y : ℕ) → y < 5 → get_or (sheet_of s x) y 0 ≡ s x y
unfolding sheet_of
sheet_lane s x = each_of_five (λ y. get_or (sheet_of s x) y 0 ≡ s x y) refl refl refl refl refl

lanes_sheet : (s : State) (x : ℕ) → x < 5 → get_or (lanes_of s) x [] ≡ sheet_of s x
unfolding lanes_of
lanes_sheet s = each_of_five (λ x. get_or (lanes_of s) x [] ≡ sheet_of s x) refl refl refl refl refl

pub lane_of : (s : State) → Same (lane_at (lanes_of s)) s
unfolding lane_at
lane_of s x y hx hy = ap (λ (l : List ℕ). get_or l y 0) (lanes_sheet s x hx) ∙ sheet_lane s x y hy

module _ {a b : State} (h : Same a b) where
  same_sheet : (x : ℕ) → x < 5 → sheet_of a x ≡ sheet_of b x
  unfolding sheet_of
  same_sheet x hx = rw (h x 0 hx (lit< tt), h x 1 hx (lit< tt), h x 2 hx (lit< tt), h x 3 hx (lit< tt), h x 4 hx (lit< tt))

  pub same_lanes : lanes_of a ≡ lanes_of b
  unfolding lanes_of
  same_lanes =
      rw (same_sheet 0 (lit< tt), same_sheet 1 (lit< tt), same_sheet 2 (lit< tt), same_sheet 3 (lit< tt), same_sheet 4 (lit< tt))

-- ---- each step reads the 25 places alone

five : (n : ℕ) → n % 5 < 5
five n = mod-lt n (lit< tt)

module _ {a b : State} (h : Same a b) where
  same_parity : (x : ℕ) → x < 5 → parity a x ≡ parity b x
  unfolding parity
  same_parity x hx = rw (h x 0 hx (lit< tt), h x 1 hx (lit< tt), h x 2 hx (lit< tt), h x 3 hx (lit< tt), h x 4 hx (lit< tt))

  same_theta : Same (theta a) (theta b)
  unfolding theta two_parities
  same_theta x y hx hy = rw (h x y hx hy, same_parity ((x + 4) % 5) (five (x + 4)), same_parity ((x + 1) % 5) (five (x + 1)))

  same_rho : Same (rho a) (rho b)
  unfolding rho
  same_rho x y hx hy = rw (h x y hx hy)

  same_pi : Same (pi a) (pi b)
  unfolding pi
  same_pi x y hx hy = h ((x + 3 * y) % 5) x (five (x + 3 * y)) hx

  same_chi : Same (chi a) (chi b)
  unfolding chi
  same_chi x y hx hy = rw (h x y hx hy, h ((x + 1) % 5) y (five (x + 1)) hy, h ((x + 2) % 5) y (five (x + 2)) hy)

  same_iota : (constant : ℕ) → Same (iota constant a) (iota constant b)
  unfolding iota
  same_iota constant x y hx hy = rw (h x y hx hy)

pub same_round : (constant : ℕ) {a b : State} → Same a b → Same (round constant a) (round constant b)
unfolding round
same_round constant h = same_iota (same_chi (same_pi (same_rho (same_theta h)))) constant

pub same_rounds : (i : ℕ) {a b : State} → Same a b → Same (rounds_before i a) (rounds_before i b)
unfolding rounds_before
same_rounds zero h = h
same_rounds (suc i) h = same_round (round_constant i) (same_rounds i h)

pub same_permuted : {a b : State} → Same a b → Same (permuted a) (permuted b)
unfolding permuted
same_permuted h = same_rounds 24 h

-- ---- the code's round: each step works on the arrays that the step before made

pub round_made : (constant : ℕ) (a : List (List ℕ)) {mixed rotated moved chosen made : List (List ℕ)} → mixed ≡ lanes_of (theta (lane_at a))
    → rotated ≡ lanes_of (rho (lane_at mixed)) → moved ≡ lanes_of (pi (lane_at rotated)) → chosen ≡ lanes_of (chi (lane_at moved))
    → made ≡ lanes_of (iota constant (lane_at chosen)) → made ≡ lanes_of (round constant (lane_at a))
unfolding round
round_made constant a {mixed} {rotated} {moved} {chosen} {made} et er ep ec ei =
    let t : Same (lane_at mixed) (theta (lane_at a)) = rw et (lane_of _) in
    let r : Same (lane_at rotated) (rho (theta (lane_at a))) = λ x y hx hy. rw er (lane_of _ x y hx hy) ∙ same_rho t x y hx hy in
    let p : Same (lane_at moved) (pi (rho (theta (lane_at a)))) = λ x y hx hy. rw ep (lane_of _ x y hx hy) ∙ same_pi r x y hx hy in
    let k : Same (lane_at chosen) (chi (pi (rho (theta (lane_at a))))) = λ x y hx hy. rw ec (lane_of _ x y hx hy) ∙ same_chi p x y hx hy in
    ei ∙ same_lanes (same_iota k constant)

-- ---- the rounds, one after another

-- the arrays b after i rounds from the arrays `start`; from the first round on they are those of a state
pub record Ran (i : ℕ) (start b : List (List ℕ)) : Type 0 where
  pub reads : Same (lane_at b) (rounds_before i (lane_at start))
  pub arrays : 0 < i → b ≡ lanes_of (lane_at b)

pub ran_none : (start : List (List ℕ)) → Ran 0 start start
unfolding rounds_before
ran_none start = record { reads = λ x y hx hy. refl; arrays = λ h. absurd (omega arith) }

pub ran_next : {i constant : ℕ} {start b next : List (List ℕ)} → Ran i start b → constant ≡ round_constant i
    → next ≡ lanes_of (round constant (lane_at b)) → Ran (i + 1) start next
unfolding rounds_before
ran_next {i} {constant} {start} {b} {next} h ec e = record {
  reads = rw (add-one i) after;
  arrays = λ l. e ∙ sym (same_lanes read) ∙ ap (λ (l : List (List ℕ)). lanes_of (lane_at l)) (sym e);
}
  where
    read : Same (lane_at (lanes_of (round constant (lane_at b)))) (round constant (lane_at b))
    read = lane_of (round constant (lane_at b))

    after : Same (lane_at next) (rounds_before (suc i) (lane_at start))
    after x y hx hy =
        ap (λ (l : List (List ℕ)). lane_at l x y) e ∙ read x y hx hy
        ∙ ap (λ (k : ℕ). round k (lane_at b) x y) ec ∙ same_round (round_constant i) h.reads x y hx hy

pub ran_all : {i : ℕ} {start b : List (List ℕ)} → Ran i start b → i ≡ 24 → b ≡ lanes_of (permuted (lane_at start))
unfolding permuted
ran_all {i} {start} {b} h e = h.arrays (omega arith) ∙ same_lanes h.reads ∙ ap (λ (k : ℕ). lanes_of (rounds_before k (lane_at start))) e
