-- What a check that is not refused says: yes exactly when some word of weight w with that syndrome
-- extends s, and it is one word; both forms of a check agree. Assumes nothing.
use mathlib.Core.Path.{◌≡◌, refl, sym, ap, ap₂, ◌∙◌}
use mathlib.Core.Logic.{◌↔◌}
use mathlib.Core.Bool.{Bool, true, cond}
use mathlib.Core.List.{List}
use Prim.Native.Nat.{ℕ, ◌+◌, ◌<◌}
use native.Mathlib.Omega.{arith}
use native.Mathlib.Decide.{ℕ_discrete}
use lib.Dec.{eqb}
use lib.ListN.{length}
use borrow.Author.Tests.{eq-eqb, ne_eqb}
use Rattle.trits.specs.Trit.{Trit, ones_v, twos_v, counts_v, sum_of}
use Rattle.trits.specs.Planes.{trit_at}
use Rattle.trits.specs.Refusal.{planes_refusal}
use Rattle.trits.specs.declared.Counts.{Counts}
use Rattle.trits.proofs.Refusals.{first_goes, passed_first, row_ended}
use Rattle.trits.proofs.Ends.{upto_ended}
use Rattle.packed.specs.Packed.{bytes_for, packed_row, packed_bytes}
use Rattle.packed.proofs.RoundTrip.{packed_length, packed_back, packed_accepted}
use Rattle.held_key.specs.declared.state.Held.{Held}
use Rattle.verdict.specs.Verdict.{full_counts, Extending, Found}
use Rattle.held_key.specs.Held.{sound, row_trits, held_key}
use Rattle.check_tests.specs.Check.{call_refusal, packed_lengths, packed_contents, packed_contents_under, held_counts, held_counts_under, answered}
use Rattle.check_tests.specs.Check.{Check, check_refusal, check_refusal_under, check_answer, check_answer_under, PackedCheck, check_packed_refusal}
use Rattle.check_tests.specs.Check.{check_packed_refusal_under, check_packed_answer, check_packed_answer_under}
use Rattle.held_key.proofs.Sizes.{sizes}
use Rattle.verdict.proofs.FullWord.{verifier, extends_once, counts_of, yes_sum}
use Rattle.check_tests.proofs.Passed.{Fitted, fitted, contents, check_passed, check_packed_passed}

-- ---- yes

-- a verdict says yes exactly when its ones and twos add up to w
answered_yes : (c : Counts) (w : ℕ) → ((answered 0 c w).yes ≡ 1) ↔ (sum_of c ≡ w)
unfolding answered
answered_yes c w = (forth (ℕ_discrete (sum_of c) w), λ e. ap (λ (t : Bool). cond {A = ℕ} t 1 0) (eq-eqb (sum_of c) w e))
  where
    forth : Dec (sum_of c ≡ w) → ◌≡◌ {A = ℕ} (cond (eqb (sum_of c) w) 1 0) 1 → sum_of c ≡ w
    forth (yes e) h = e
    forth (no f) h = let z : ◌≡◌ {A = ℕ} 0 1 = sym (ap (λ (t : Bool). cond {A = ℕ} t 1 0) (ne_eqb (sum_of c) w f)) ∙ h in absurd (omega arith)

-- yes, where nothing is refused
module _ (h : Held) (ones twos : List ℕ) (y s : ℕ → Trit) where
  pub found : ((answered 0 (held_counts h ones twos y s) h.w).yes ≡ 1) ↔ Found (row_trits h) h.k h.w (held_key h ones twos) y s
  unfolding held_counts_under
  found =
      let R = held_key h ones twos in
      let v = verifier (row_trits h) h.k R y s h.w in
      let a = answered_yes (full_counts (row_trits h) h.k R y s) h.w in
      let g = yes_sum (row_trits h) h.k R y s h.w in
      ((λ q. v.0 (g.1 (a.0 q))), λ f. a.1 (g.0 (v.1 f)))

-- the check in planes
pub check_verdict : (c : Check) → check_refusal c ≡ 0 → let h = c.held in
    ((check_answer c).yes ≡ 1) ↔ Found (row_trits h) h.k h.w (held_key h c.ones c.twos) (trit_at c.y_ones c.y_twos) (trit_at c.s_ones c.s_twos)
unfolding check_answer_under
check_verdict c e = rw e (found c.held c.ones c.twos (trit_at c.y_ones c.y_twos) (trit_at c.s_ones c.s_twos))

-- the packed check
pub check_packed_verdict : (c : PackedCheck) → check_packed_refusal c ≡ 0 → let h = c.held in
    ((check_packed_answer c).yes ≡ 1) ↔ Found (row_trits h) h.k h.w (held_key h c.ones c.twos) (packed_row c.y) (packed_row c.s)
unfolding check_packed_answer_under
check_packed_verdict c e = rw e (found c.held c.ones c.twos (packed_row c.y) (packed_row c.s))

-- the ones and twos that a check answers are those of that word
word_counts : (h : Held) (ones twos : List ℕ) (y s v : ℕ → Trit) → sound h ≡ true → Extending (row_trits h) h.k (held_key h ones twos) y s v
    → held_counts h ones twos y s ≡ counts_v v h.n
unfolding held_counts_under
word_counts h ones twos y s v z x =
    let all : row_trits h + h.k ≡ h.n = omega (arith, sizes h z) in
    counts_of (row_trits h) h.k (held_key h ones twos) y s v x.has_syndrome x.extends ∙ ap (counts_v v) all

pub check_counts_law : (c : Check) → check_refusal c ≡ 0 → (v : ℕ → Trit) → let h = c.held in
    Extending (row_trits h) h.k (held_key h c.ones c.twos) (trit_at c.y_ones c.y_twos) (trit_at c.s_ones c.s_twos) v
    → ((check_answer c).ones ≡ ones_v v h.n) × ((check_answer c).twos ≡ twos_v v h.n)
unfolding check_answer_under answered
check_counts_law c e v x =
    let f = word_counts c.held c.ones c.twos (trit_at c.y_ones c.y_twos) (trit_at c.s_ones c.s_twos) v (check_passed c e).0.is_sound x in
    (rw e (ap (λ (k : Counts). k.ones) f), rw e (ap (λ (k : Counts). k.twos) f))

pub check_packed_counts_law : (c : PackedCheck) → check_packed_refusal c ≡ 0 → (v : ℕ → Trit) → let h = c.held in
    Extending (row_trits h) h.k (held_key h c.ones c.twos) (packed_row c.y) (packed_row c.s) v
    → ((check_packed_answer c).ones ≡ ones_v v h.n) × ((check_packed_answer c).twos ≡ twos_v v h.n)
unfolding check_packed_answer_under answered
check_packed_counts_law c e v x =
    let h = c.held in
    let f = word_counts h c.ones c.twos (packed_row c.y) (packed_row c.s) v (check_packed_passed c e).0.is_sound x in
    (rw e (ap (λ (k : Counts). k.ones) f), rw e (ap (λ (k : Counts). k.twos) f))

-- and there is one such word
pub found_once : (h : Held) (ones twos : List ℕ) (y s e f : ℕ → Trit) → sound h ≡ true → Extending (row_trits h) h.k (held_key h ones twos) y s e
    → Extending (row_trits h) h.k (held_key h ones twos) y s f → (q : ℕ) → q < h.n → e q ≡ f q
found_once h ones twos y s e f z a b q l = extends_once (row_trits h) h.k (held_key h ones twos) y s e f a b q (omega (arith, sizes h z))

-- ---- the same trits in planes and packed

-- the check of the same y and s, packed
abbrev pub packed_of : Check → PackedCheck
packed_of c = record {
  held = c.held;
  number = c.number;
  ones = c.ones;
  twos = c.twos;
  y = packed_bytes (row_trits c.held) (trit_at c.y_ones c.y_twos);
  s = packed_bytes c.held.k (trit_at c.s_ones c.s_twos);
  work_ones = c.work_ones;
  work_twos = c.work_twos;
}

module _ (c : Check) (e : check_refusal c ≡ 0) where
  abbrev h : Held
  h = c.held

  abbrev y : ℕ → Trit
  y = trit_at c.y_ones c.y_twos

  abbrev s : ℕ → Trit
  s = trit_at c.s_ones c.s_twos

  abbrev py : List ℕ
  py = packed_bytes (row_trits h) y

  abbrev ps : List ℕ
  ps = packed_bytes h.k s

  fit : Fitted h (length c.y_ones) (length c.y_twos) (length c.s_ones) (length c.s_twos)
  fit = fitted h (length c.y_ones) (length c.y_twos) (length c.s_ones) (length c.s_twos) (check_passed c e).1

  right : (planes_refusal c.ones c.twos h.k (row_trits h) ≡ 0)
      × (planes_refusal c.y_ones c.y_twos 1 (row_trits h) ≡ 0) × (planes_refusal c.s_ones c.s_twos 1 h.k ≡ 0)
  right = contents h c.ones c.twos c.y_ones c.y_twos c.s_ones c.s_twos (check_passed c e).2

  call_passes : call_refusal h c.number (length c.ones) (length c.twos) (length c.work_ones) (length c.work_twos) ≡ 0
  unfolding check_refusal_under
  call_passes = (passed_first (call_refusal h c.number (length c.ones) (length c.twos) (length c.work_ones) (length c.work_twos)) _ e).0

  lengths_pass : packed_lengths h (length py) (length ps) ≡ 0
  unfolding packed_lengths
  lengths_pass = rw (eq-eqb (length py) (bytes_for (row_trits h)) (packed_length (row_trits h) y), eq-eqb (length ps) (bytes_for h.k) (packed_length h.k s))

  contents_pass : 0 ≡ packed_contents h c.ones c.twos py ps
  unfolding packed_contents_under
  contents_pass = first_goes (sym right.0) refl (first_goes (sym (packed_accepted (row_trits h) y)) refl (sym (packed_accepted h.k s)))

  -- the packed check is not refused
  pub packed_passes : check_packed_refusal (packed_of c) ≡ 0
  unfolding check_packed_refusal_under
  packed_passes = sym (first_goes (sym call_passes) refl (first_goes (sym lengths_pass) refl contents_pass))

  y_back : packed_row py ≡ y
  y_back = packed_back (row_trits h) y ∙ upto_ended y (row_trits h) (row_ended c.y_ones c.y_twos (row_trits h) right.1 fit.y_ones fit.y_twos)

  s_back : packed_row ps ≡ s
  s_back = packed_back h.k s ∙ upto_ended s h.k (row_ended c.s_ones c.s_twos h.k right.2 fit.s_ones fit.s_twos)

  -- and it answers the same
  pub packed_agrees : check_packed_answer (packed_of c) ≡ check_answer c
  unfolding check_answer_under check_packed_answer_under
  packed_agrees = ap₂ (λ (r : ℕ) (x : Counts). answered r x h.w) (packed_passes ∙ sym e) (ap₂ (held_counts h c.ones c.twos) y_back s_back)
