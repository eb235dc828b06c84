-- What the tests of a salt and a text have shown, and what a call answers and leaves. Assumes nothing.
use mathlib.Core.Path.{◌≡◌, refl, sym, ap, ◌∙◌}
use mathlib.Core.Bool.{Bool, true, false, cond}
use mathlib.Core.List.{List}
use Prim.Native.Nat.{ℕ}
use native.Mathlib.Decide.{ℕ_discrete}
use borrow.Author.Tests.{eqb-true}
use lib.Dec.{eqb, lit<}
use lib.ListN.{length}
use Rattle.trits.specs.Planes.{zero_words}
use Rattle.trits.specs.Refusal.{refuse, first, space_stays, space_exit, planes_refusal}
use Rattle.trits.proofs.Refusals.{passed_first, passed_demand, first_goes, first_stops, demand_all, first_all, planes_all, space_kept, space_zero}
use Rattle.trits.proofs.Stages.{first_nested}
use Rattle.packed.specs.Packed.{bytes_for, packed_refusal}
use Rattle.packed.specs.Stream.{too_short}
use Rattle.packed.proofs.Turned.{packed_all}
use Rattle.syndrome.specs.Syndrome.{salt_bytes, hashed, hashed_refusal}
use Rattle.held_key.specs.declared.state.Held.{Held}
use Rattle.held_key.specs.Held.{row_trits}
use Rattle.check_tests.specs.Check.{call_refusal}
use Rattle.check_tests.proofs.Passed.{Called, called}
use Rattle.check_tests.proofs.Answers.{call_all}
use Rattle.check_text.specs.TextCheck.{TextCheck, text_lengths, text_contents, check_text_refusal, text_space_exit}
use Rattle.check_text.specs.Steps.{tested_refusal}

-- ---- where nothing was refused

pub text_fitted : (h : Held) (salt s : ℕ) → text_lengths h salt s ≡ 0 → (salt ≡ salt_bytes) × (s ≡ bytes_for h.k)
unfolding text_lengths
text_fitted h salt s e =
    let a = passed_demand (eqb salt salt_bytes) 2 _ (lit< tt) e in
    let b = passed_demand (eqb s (bytes_for h.k)) 2 0 (lit< tt) a.1 in
    (eqb-true _ _ a.0, eqb-true _ _ b.0)

pub text_contents_law : (h : Held) (ones twos s : List ℕ) → text_contents h ones twos s ≡ 0
    → (planes_refusal ones twos h.k (row_trits h) ≡ 0) × (packed_refusal h.k s ≡ 0)
unfolding text_contents
text_contents_law h ones twos s e = passed_first (planes_refusal ones twos h.k (row_trits h)) (packed_refusal h.k s) e

-- the tests before the hash, of a call's buffers
abbrev pub tested_of : TextCheck → ℕ
tested_of c = tested_refusal c.held c.number c.ones c.twos c.salt c.s c.work_ones c.work_twos

pub record Tested (c : TextCheck) : Type 0 where
  pub key_called : Called c.held c.number (length c.ones) (length c.twos) (length c.work_ones) (length c.work_twos)
  pub lengths : text_lengths c.held (length c.salt) (length c.s) ≡ 0
  pub contents : text_contents c.held c.ones c.twos c.s ≡ 0

pub tested : (c : TextCheck) → tested_of c ≡ 0 → Tested c
unfolding tested_refusal
tested c e =
    let h = c.held in
    let a = passed_first (call_refusal h c.number (length c.ones) (length c.twos) (length c.work_ones) (length c.work_twos)) _ e in
    let b = passed_first (text_lengths h (length c.salt) (length c.s)) _ a.1 in
    record { key_called = called _ _ _ _ _ _ a.0; lengths = b.0; contents = b.1 }

-- ---- the call's refusal: that of the tests, and where they refuse nothing that of the hash

pub text_parted : (c : TextCheck) → first (tested_of c) (hashed_refusal (row_trits c.held) c.salt c.text) ≡ check_text_refusal c
unfolding tested_refusal check_text_refusal
text_parted c =
    let h = c.held in
    let call = call_refusal h c.number (length c.ones) (length c.twos) (length c.work_ones) (length c.work_twos) in
    let lengths = text_lengths h (length c.salt) (length c.s) in
    let contents = text_contents h c.ones c.twos c.s in
    let hash = hashed_refusal (row_trits h) c.salt c.text in
    sym (first_nested call (first lengths contents) hash) ∙ ap (first call) (sym (first_nested lengths contents hash))

-- the tests refuse
pub text_refused : (c : TextCheck) {k : ℕ} → k ≡ tested_of c → (k ≡ 0 → ⊥) → k ≡ check_text_refusal c
text_refused c e n = first_stops _ e n ∙ text_parted c

-- the hash decides
pub text_decided : (c : TextCheck) → tested_of c ≡ 0 → hashed_refusal (row_trits c.held) c.salt c.text ≡ check_text_refusal c
text_decided c z = first_goes {x = tested_of c} refl z refl ∙ text_parted c

-- ---- the working space

-- zero after 6
zero_after_six : (plane : List ℕ) → zero_words (length plane) ≡ text_space_exit 6 plane
unfolding text_space_exit
zero_after_six plane = refl

-- a refusal that leaves it: none of the tests gives 6
record Stays (r : ℕ) : Type 0 where
  left : (r ≡ 0 → ⊥) → (space_stays r ≡ true) × (eqb r 6 ≡ false)

none_stays : Stays 0
none_stays = record { left = λ f. absurd (f refl) }

stays : (k : ℕ) → space_stays k ≡ true → eqb k 6 ≡ false → Stays k
stays k h n = record { left = λ f. (h, n) }

tested_stays : (c : TextCheck) → Stays (tested_of c)
unfolding tested_refusal text_lengths text_contents
tested_stays c =
    let h = c.held in
    let two = stays 2 refl refl in
    first_all Stays _ _ (call_all Stays none_stays (stays 1 refl refl) two (stays 20 refl refl) (stays 22 refl refl) h c.number _ _ _ _)
    (first_all Stays _ _
    (demand_all Stays (eqb (length c.salt) salt_bytes) 2 _ two
    (demand_all Stays (eqb (length c.s) (bytes_for h.k)) 2 0 two
    none_stays))
    (first_all Stays _ _ (planes_all c.ones c.twos h.k (row_trits h) Stays (stays 3 refl refl) (stays 4 refl refl) none_stays)
    (packed_all h.k c.s Stays (stays 5 refl refl) (stays 15 refl refl) none_stays)))

-- so a call that makes its y never ends with 6
pub never_six : (c : TextCheck) → hashed_refusal (row_trits c.held) c.salt c.text ≡ 0 → eqb (check_text_refusal c) 6 ≡ false
never_six c g = by (ℕ_discrete (tested_of c) 0)
  where
    by : Dec (tested_of c ≡ 0) → eqb (check_text_refusal c) 6 ≡ false
    by (yes z) = ap (λ (x : ℕ). eqb x 6) (sym (text_decided c z) ∙ g)
    by (no n) = ap (λ (x : ℕ). eqb x 6) (sym (text_refused c refl n)) ∙ ((tested_stays c).left n).1

-- untouched where a test refused
pub text_kept : (c : TextCheck) {k : ℕ} → k ≡ tested_of c → (k ≡ 0 → ⊥) → (plane : List ℕ)
    → plane ≡ text_space_exit (check_text_refusal c) plane
unfolding text_space_exit
text_kept c {k} e n plane =
    let (h, six) = (tested_stays c).left (λ z. n (e ∙ z)) in
    let r = sym e ∙ text_refused c e n in
    let other : eqb (check_text_refusal c) 6 ≡ false = ap (λ (x : ℕ). eqb x 6) (sym r) ∙ six in
    space_kept plane {k = tested_of c} r h ∙ sym (ap (λ (t : Bool). cond t (zero_words (length plane)) (space_exit (check_text_refusal c) plane)) other)

-- zero where they refused nothing, after 6 too
pub text_zero : (c : TextCheck) → tested_of c ≡ 0 → (plane : List ℕ) {p : List ℕ} {n : ℕ} → n ≡ length plane → p ≡ zero_words n
    → p ≡ text_space_exit (check_text_refusal c) plane
unfolding text_space_exit hashed_refusal
text_zero c z plane l e =
    e ∙ ap zero_words l ∙ by (too_short (row_trits c.held) (hashed (row_trits c.held) c.salt c.text)) (text_decided c z)
  where
    exit : ℕ → List ℕ
    exit r = text_space_exit r plane

    by : (t : Bool) → refuse t 6 0 ≡ check_text_refusal c → zero_words (length plane) ≡ exit (check_text_refusal c)
    by true e = zero_after_six plane ∙ ap exit e
    by false e = space_zero plane {k = 0} refl refl ∙ ap exit e
