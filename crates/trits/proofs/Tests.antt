-- The tests for 3 and 4: what a loop over words finds is what the definitions say of places, and what planes are that pass. Assumes nothing.
use mathlib.Core.Path.{◌≡◌, refl, sym, ap, ap₂, ◌∙◌, subst}
use mathlib.Core.Bool.{Bool, true, false, not, ◌&&◌, ◌||◌, or_assoc, or-false, or-true, true≢false}
use mathlib.Core.List.{List}
use mathlib.Core.Logic.{⊎_elim, ◌≢◌}
use mir.Syntax.{w64}
use mir.Val.{Fits}
use Prim.Native.Nat.{ℕ, zero, suc, ◌+◌, ◌-◌, ◌*◌, ◌/◌, ◌%◌, ◌^◌, ◌≤◌, ◌<◌}
use native.Mathlib.Nat.{not-suc-le-zero, le_of_suc-le-suc, eq-or-lt_of_le, add_assoc, le_refl, add-zero, add-suc}
use native.Mathlib.Decide.{dec_lt, ℕ_discrete}
use native.Mathlib.Numerals.{add-one}
use native.Mathlib.Omega.{arith}
use borrow.Author.Tests.{eq-eqb, ne_eqb, eqb-true, eqb-false}
use lib.ListN.{length, get_or, get_or-eq_default}
use lib.Dec.{eqb}
use lib.Bits.{bit_and, bit_or, and_lt, or_lt}
use lib.Pow.{shr_lt, pow_pos}
use Rattle.trits.specs.Trit.{Trit, t0, t1, t2, any_to, one, two}
use Rattle.trits.specs.Planes.{bit, trit, bit_at, trit_at, ones_of, twos_of, both_at, either_at, both_set, past_end, words_for, Apart}
use Rattle.trits.proofs.Bits.{bit_and_law, bit_or_law, bit_lt, bit_none, bits_eq, shr_bit}
use Rattle.trits.proofs.Reading.{bit_at_place, read_past, ones_bit, twos_bit, length_ones, holds_reads}
use Rattle.trits.proofs.WordOps.{no_bits}

-- ---- whether a test holds at some place

pub any_cong : (k : ℕ) (p q : ℕ → Bool) → ((i : ℕ) → i < k → p i ≡ q i) → any_to p k ≡ any_to q k
unfolding any_to
any_cong zero p q e = refl
any_cong (suc k) p q e = ap₂ ◌||◌ (any_cong k p q (λ i l. e i (omega arith))) (e k (le_refl (suc k)))

pub any_add : (a k : ℕ) (p : ℕ → Bool) → any_to p (a + k) ≡ (any_to p a || any_to (λ i. p (a + i)) k)
unfolding any_to
any_add a zero p = ap (any_to p) (add-zero a) ∙ sym (or-false (any_to p a))
any_add a (suc k) p =
    ap (any_to p) (add-suc a k) ∙ ap (λ (x : Bool). x || p (a + k)) (any_add a k p) ∙ or_assoc (any_to p a) (any_to (λ i. p (a + i)) k) (p (a + k))

pub or_false_both : (a b : Bool) → (a || b) ≡ false → (a ≡ false) × (b ≡ false)
or_false_both true b e = absurd (true≢false e)
or_false_both false b e = (refl, e)

-- it is false: p holds at no place below m
pub any_none : (m : ℕ) (p : ℕ → Bool) → any_to p m ≡ false → (i : ℕ) → i < m → p i ≡ false
unfolding any_to
any_none zero p e i l = absurd (not-suc-le-zero l)
any_none (suc m) p e i l =
    let h = or_false_both (any_to p m) (p m) e in
    ⊎_elim (λ q. ap p q ∙ h.1) (λ q. any_none m p h.0 i q) (eq-or-lt_of_le (le_of_suc-le-suc l))

pub none_any : (m : ℕ) (p : ℕ → Bool) → ((i : ℕ) → i < m → p i ≡ false) → any_to p m ≡ false
unfolding any_to
none_any zero p h = refl
none_any (suc m) p h = ap₂ ◌||◌ (none_any m p (λ i l. h i (omega arith))) (h m (le_refl (suc m)))

-- it is true: p holds at one
pub any_some : (m : ℕ) (p : ℕ → Bool) → any_to p m ≡ true → (i : ℕ) × (i < m) × (p i ≡ true)
unfolding any_to
any_some zero p e = absurd (true≢false (sym e))
any_some (suc m) p e = go (any_to p m) (p m) refl refl e (any_some m p)
  where
    go : (a b : Bool) → any_to p m ≡ a → p m ≡ b → (a || b) ≡ true → (any_to p m ≡ true → (i : ℕ) × (i < m) × (p i ≡ true)) → (i : ℕ) × (i < suc m)
        × (p i ≡ true)
    go true b q r t f = let s = f q in (s.0, omega (arith, s.1), s.2)
    go false b q r t f = (m, le_refl (suc m), r ∙ t)

-- what holds below a holds below what is no less
pub any_more : (a b : ℕ) (p : ℕ → Bool) → a ≤ b → any_to p a ≡ true → any_to p b ≡ true
any_more a b p l e =
    ap (any_to p) (omega arith) ∙ any_add a (b - a) p ∙ ap (λ (x : Bool). x || any_to (λ i. p (a + i)) (b - a)) e

-- the ends of a search that goes up one place at a time
module _ (p : ℕ → Bool) (i : ℕ) where
  pub any_found : (m : ℕ) → i < m → p i ≡ true → any_to p m ≡ true
  unfolding any_to
  any_found m l h =
      let e : any_to p (suc i) ≡ true = ap (λ (b : Bool). any_to p i || b) h ∙ or-true (any_to p i) in
      any_more (suc i) m p (omega arith) e

  pub any_passed : any_to p i ≡ false → p i ≡ false → any_to p (i + 1) ≡ false
  unfolding any_to
  any_passed e h = ap (any_to p) (add-one i) ∙ ap₂ ◌||◌ e h

-- ---- the bits of a word

bit_not_one : (i x : ℕ) → eqb (bit i x) 1 ≡ false → bit i x ≡ bit i 0
bit_not_one i x e =
    let ne : bit i x ≢ 1 = eqb-false (bit i x) 1 e in
    omega (arith, bit_lt i x, bit_none i)

-- a number of k bits has one set where it is not 0
pub any_bit : (k x : ℕ) → x < 2 ^ k → any_to (λ i. eqb (bit i x) 1) k ≡ not (eqb x 0)
any_bit k x h = go (any_to (λ i. eqb (bit i x) 1) k) refl
  where
    go : (a : Bool) → any_to (λ i. eqb (bit i x) 1) k ≡ a → any_to (λ i. eqb (bit i x) 1) k ≡ not (eqb x 0)
    go true e =
        let s = any_some k (λ i. eqb (bit i x) 1) e in
        e ∙ sym (ap not (ne_eqb x 0 (λ q. let z : ◌≡◌ {A = ℕ} 0 1 = sym (bit_none s.0) ∙ ap (bit s.0) (sym q)
        ∙ eqb-true (bit s.0 x) 1 s.2 in omega arith)))
    go false e =
        e ∙ sym (ap not (eq-eqb x 0 (bits_eq k x 0 h (pow_pos k) (λ i l. bit_not_one i x (any_none k (λ i. eqb (bit i x) 1) e i l)))))

or_bit_zero : (a b : ℕ) → a < 2 → b < 2 → bit_or a b ≡ 0 → a ≡ 0
or_bit_zero zero b p q e = refl
or_bit_zero (suc zero) zero p q e = absurd (omega arith)
or_bit_zero (suc zero) (suc zero) p q e = absurd (omega arith)
or_bit_zero (suc zero) (suc (suc b)) p q e = absurd (omega arith)
or_bit_zero (suc (suc a)) b p q e = absurd (omega arith)

-- words joined by `|` are 0 only where each is
pub or_zero : (x y : ℕ) → bit_or x y ≡ 0 → x ≡ 0
or_zero x y e = no_bits x (λ i. or_bit_zero (bit i x) (bit i y) (bit_lt i x) (bit_lt i y) (sym (bit_or_law i x y) ∙ ap (bit i) e ∙ bit_none i))

pub nonzero_or : (x y : ℕ) → not (eqb (bit_or x y) 0) ≡ (not (eqb x 0) || not (eqb y 0))
nonzero_or x y = by (ℕ_discrete x 0)
  where
    by : Dec (x ≡ 0) → not (eqb (bit_or x y) 0) ≡ (not (eqb x 0) || not (eqb y 0))
    by (yes e) = ap (λ (z : ℕ). not (eqb (bit_or z y) 0)) e ∙ sym (ap (λ (t : Bool). not t || not (eqb y 0)) (eq-eqb x 0 e))
    by (no f) = ap not (ne_eqb (bit_or x y) 0 (λ e. f (or_zero x y e))) ∙ sym (ap (λ (t : Bool). not t || not (eqb y 0)) (ne_eqb x 0 f))

-- ---- 3: a bit in both planes

both_digit : (a b : ℕ) → a < 2 → b < 2 → (eqb a 1 && eqb b 1) ≡ eqb (bit_and a b) 1
both_digit zero b p q = refl
both_digit (suc zero) zero p q = refl
both_digit (suc zero) (suc zero) p q = refl
both_digit (suc zero) (suc (suc b)) p q = absurd (omega arith)
both_digit (suc (suc a)) b p q = absurd (omega arith)

module _ (os ts : List ℕ) (j : ℕ) where
  both_place : (b : ℕ) → b < 64 → both_at os ts (64 * j + b) ≡ eqb (bit b (bit_and (get_or os j 0) (get_or ts j 0))) 1
  both_place b h =
      let o = get_or os j 0 in
      let t = get_or ts j 0 in
      ap₂ (λ (x y : ℕ). eqb x 1 && eqb y 1) (bit_at_place j b h os) (bit_at_place j b h ts)
      ∙ both_digit (bit b o) (bit b t) (bit_lt b o) (bit_lt b t) ∙ ap (λ (x : ℕ). eqb x 1) (sym (bit_and_law b o t))

  -- a turn: the bits gathered so far and those of word j
  pub both_turn : (x : ℕ) → Fits w64 (get_or os j 0) → Fits w64 (get_or ts j 0) → not (eqb x 0) ≡ any_to (both_at os ts) (64 * j)
      → not (eqb (bit_or x (bit_and (get_or os j 0) (get_or ts j 0))) 0) ≡ any_to (both_at os ts) (64 * (j + 1))
  both_turn x ho ht e =
      let o = get_or os j 0 in
      let t = get_or ts j 0 in
      nonzero_or x (bit_and o t)
      ∙ ap₂ ◌||◌ e (sym (any_bit 64 (bit_and o t) (and_lt 64 o t ho.fits ht.fits)) ∙ any_cong 64 _ _ (λ b h. sym (both_place b h)))
      ∙ sym (any_add (64 * j) 64 (both_at os ts)) ∙ ap (any_to (both_at os ts)) (omega arith)

pub both_all : (os ts : List ℕ) (x i : ℕ) → i ≡ length os → not (eqb x 0) ≡ any_to (both_at os ts) (64 * i) → not (eqb x 0) ≡ both_set os ts
unfolding both_set
both_all os ts x i p e = e ∙ ap (λ (n : ℕ). any_to (both_at os ts) (64 * n)) p

-- planes that pass can be read
pub both_apart : {os ts : List ℕ} → ((j : ℕ) → Fits w64 (get_or os j 0)) → ((j : ℕ) → Fits w64 (get_or ts j 0)) → both_set os ts ≡ false → Apart os ts
unfolding both_set
both_apart {os} {ts} ho ht e = record { word = λ j. by j (dec_lt j (length os)) }
  where
    by : (j : ℕ) → Dec (j < length os) → bit_and (get_or os j 0) (get_or ts j 0) ≡ 0
    by j (yes l) =
        let o = get_or os j 0 in
        let t = get_or ts j 0 in
        bits_eq 64 (bit_and o t) 0 (and_lt 64 o t (ho j).fits (ht j).fits) (pow_pos 64) (λ b h. bit_not_one b (bit_and o t)
        (sym (both_place os ts j b h) ∙ any_none (64 * length os) (both_at os ts) e (64 * j + b) (omega arith)))
    by j (no f) = ap (λ (x : ℕ). bit_and x (get_or ts j 0)) (get_or-eq_default os 0 (omega arith))

-- ---- 4: a bit past the length

either_digit : (a b : ℕ) → a < 2 → b < 2 → (eqb a 1 || eqb b 1) ≡ eqb (bit_or a b) 1
either_digit zero zero p q = refl
either_digit zero (suc zero) p q = refl
either_digit zero (suc (suc b)) p q = absurd (omega arith)
either_digit (suc zero) zero p q = refl
either_digit (suc zero) (suc zero) p q = refl
either_digit (suc zero) (suc (suc b)) p q = absurd (omega arith)
either_digit (suc (suc a)) b p q = absurd (omega arith)

-- the places of word j from bit u on
past_word : (os ts : List ℕ) (j u : ℕ) → u ≤ 64 → Fits w64 (get_or os j 0) → Fits w64 (get_or ts j 0)
    → any_to (λ k. either_at os ts (64 * j + u + k)) (64 - u) ≡ not (eqb (bit_or (get_or os j 0) (get_or ts j 0) / 2 ^ u) 0)
past_word os ts j u hu ho ht =
    let o = get_or os j 0 in
    let t = get_or ts j 0 in
    let e : 64 ≡ 64 - u + u = omega arith in
    any_cong (64 - u) _ _ (λ k h.
    ap (either_at os ts) (add_assoc (64 * j) u k)
    ∙ ap₂ (λ (x y : ℕ). eqb x 1 || eqb y 1) (bit_at_place j (u + k) (omega arith) os) (bit_at_place j (u + k) (omega arith) ts)
    ∙ either_digit (bit (u + k) o) (bit (u + k) t) (bit_lt (u + k) o) (bit_lt (u + k) t)
    ∙ ap (λ (x : ℕ). eqb x 1) (sym (bit_or_law (u + k) o t) ∙ sym (shr_bit u k (bit_or o t))))
    ∙ any_bit (64 - u) (bit_or o t / 2 ^ u) (shr_lt (64 - u) u (subst (λ (k : ℕ). bit_or o t < 2 ^ k) e (or_lt 64 o t ho.fits ht.fits)))

-- the two ends of `past_end`
pub past_none : (os ts : List ℕ) (m : ℕ) → length os ≡ words_for m → m % 64 ≡ 0 → false ≡ past_end os ts m
unfolding past_end any_to
past_none os ts m e z =
    let none : 64 * length os - m ≡ 0 = omega arith in
    sym (ap (any_to (λ k. either_at os ts (m + k))) none)

pub past_last : (os ts : List ℕ) (m : ℕ) → length os ≡ words_for m → (m % 64 ≡ 0 → ⊥) → Fits w64 (get_or os (m / 64) 0) → Fits w64 (get_or ts (m / 64) 0)
    → not (eqb (bit_or (get_or os (m / 64) 0) (get_or ts (m / 64) 0) / 2 ^ (m % 64)) 0) ≡ past_end os ts m
unfolding past_end
past_last os ts m e z ho ht =
    let nz : m % 64 ≢ 0 = z in
    sym (past_word os ts (m / 64) (m % 64) (omega arith) ho ht)
    ∙ ap₂ (λ (a n : ℕ). any_to (λ k. either_at os ts (a + k)) n) (omega arith) (omega arith)

none_digit : (a b : ℕ) → a < 2 → b < 2 → (eqb a 1 || eqb b 1) ≡ false → trit a b ≡ t0
none_digit zero zero p q e = refl
none_digit zero (suc zero) p q e = absurd (true≢false e)
none_digit zero (suc (suc b)) p q e = absurd (omega arith)
none_digit (suc zero) b p q e = absurd (true≢false e)
none_digit (suc (suc a)) b p q e = absurd (omega arith)

-- a row that passes is 0 from its length on
pub past_zero : (os ts : List ℕ) (m : ℕ) → length ts ≡ length os → past_end os ts m ≡ false → (i : ℕ) → m ≤ i → trit_at os ts i ≡ t0
unfolding past_end trit_at bit_at
past_zero os ts m l e i h = by (dec_lt i (64 * length os))
  where
    by : Dec (i < 64 * length os) → trit_at os ts i ≡ t0
    by (yes b) =
        let k = i - m in
        let s : m + k ≡ i = omega arith in
        none_digit (bit_at os i) (bit_at ts i) (bit_lt (i % 64) _) (bit_lt (i % 64) _)
        (ap (either_at os ts) (sym s) ∙ any_none (64 * length os - m) (λ k. either_at os ts (m + k)) e k (omega arith))
    by (no f) = read_past os ts (length os) i refl l (omega arith)

zero_bit : (a b : ℕ) → a < 2 → b < 2 → trit a b ≡ t0 → (eqb a 1 || eqb b 1) ≡ false
zero_bit zero zero p q e = refl
zero_bit zero (suc zero) p q e = let z : ◌≡◌ {A = ℕ} 0 1 = cc in absurd (omega arith)
zero_bit zero (suc (suc b)) p q e = absurd (omega arith)
zero_bit (suc zero) b p q e = let z : ◌≡◌ {A = ℕ} 0 1 = cc in absurd (omega arith)
zero_bit (suc (suc a)) b p q e = absurd (omega arith)

-- and one that is 0 from its length on passes
pub zero_past : (os ts : List ℕ) (m : ℕ) → ((i : ℕ) → m ≤ i → trit_at os ts i ≡ t0) → past_end os ts m ≡ false
unfolding past_end trit_at bit_at
zero_past os ts m h =
    none_any (64 * length os - m) (λ k. either_at os ts (m + k)) (λ k l.
    zero_bit (bit_at os (m + k)) (bit_at ts (m + k)) (bit_lt ((m + k) % 64) _) (bit_lt ((m + k) % 64) _) (h (m + k) (omega arith)))

-- ---- the planes of a vector pass

never_both : (x : Trit) → (eqb (one x) 1 && eqb (two x) 1) ≡ false
never_both t0 = refl
never_both t1 = refl
never_both t2 = refl

pub written_both : (v : ℕ → Trit) (n : ℕ) → both_set (ones_of v n) (twos_of v n) ≡ false
unfolding both_set
written_both v n =
    none_any (64 * length (ones_of v n)) (both_at (ones_of v n) (twos_of v n)) (λ i b.
    let c : i < 64 * n = omega (arith, length_ones v n) in
    ap₂ (λ (x y : ℕ). eqb x 1 && eqb y 1) (ones_bit v n i c) (twos_bit v n i c) ∙ never_both (v i))

pub written_past : (v : ℕ → Trit) (m n : ℕ) → ((i : ℕ) → m ≤ i → v i ≡ t0) → m ≤ 64 * n → past_end (ones_of v n) (twos_of v n) m ≡ false
written_past v m n z l =
    let r = holds_reads (ones_of v n) (twos_of v n) n v (λ j c. z j (omega arith)) (record { ones_are = refl; twos_are = refl }) in
    zero_past (ones_of v n) (twos_of v n) m (λ i b. ap (λ (u : ℕ → Trit). u i) r.trits ∙ z i b)
