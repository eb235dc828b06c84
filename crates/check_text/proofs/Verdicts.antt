-- The verdict on a salt and a text is the one on the y that they make: the same ones, twos and yes. Assumes nothing.
use mathlib.Core.Path.{◌≡◌, refl, sym, ap, ap₂, ◌∙◌}
use mathlib.Core.Bool.{Bool, cond}
use mathlib.Core.Logic.{◌↔◌}
use mathlib.Core.List.{List}
use Prim.Native.Nat.{ℕ, ◌<◌}
use borrow.Author.Tests.{eq-eqb}
use lib.ListN.{length}
use Rattle.trits.specs.Trit.{Trit}
use Rattle.trits.specs.Planes.{zero_words}
use Rattle.trits.specs.Refusal.{first, space_exit, planes_refusal}
use Rattle.trits.specs.declared.Counts.{Counts}
use Rattle.trits.proofs.Ends.{upto_ended}
use Rattle.trits.proofs.Refusals.{first_goes, passed_first}
use Rattle.trits.proofs.Stages.{last_stage}
use Rattle.packed.specs.Packed.{bytes_for, packed_row, packed_bytes, packed_refusal}
use Rattle.packed.proofs.RoundTrip.{packed_length, packed_back, packed_accepted}
use Rattle.syndrome.specs.Syndrome.{salt_bytes, hashed_row, hashed_refusal}
use Rattle.syndrome.proofs.Made.{hashed_ended}
use Rattle.verdict.specs.Verdict.{Extending, Found}
use Rattle.held_key.specs.Held.{row_trits, held_key}
use Rattle.check_tests.specs.Check.{call_refusal, packed_lengths, packed_contents, packed_contents_under, held_counts, answered}
use Rattle.check_tests.specs.Check.{check_packed_refusal, check_packed_refusal_under, check_packed_answer, check_packed_answer_under, check_packed_work_ones}
use Rattle.check_tests.specs.Check.{check_packed_work_twos}
use Rattle.checker.proofs.Verdicts.{found, found_once}
use Rattle.check_text.specs.TextCheck.{TextCheck, text_lengths, text_contents, check_text_refusal, check_text_counts, check_text_answer, text_space_exit}
use Rattle.check_text.specs.TextCheck.{check_text_work_ones, check_text_work_twos, made_check}
use Rattle.check_text.proofs.Tested.{tested_of, tested, text_parted, never_six}

-- ---- as the packed check of that y, refusals too

-- a salt of 32 bytes, and an output that gives as many trits as a row has
module _ (c : TextCheck) (s : length c.salt ≡ salt_bytes) (g : hashed_refusal (row_trits c.held) c.salt c.text ≡ 0) where
  abbrev m : ℕ
  m = row_trits c.held

  abbrev y : ℕ → Trit
  y = hashed_row m c.salt c.text

  same_lengths : text_lengths c.held (length c.salt) (length c.s) ≡ packed_lengths c.held (length (packed_bytes m y)) (length c.s)
  unfolding text_lengths packed_lengths
  same_lengths = rw (eq-eqb (length c.salt) salt_bytes s, eq-eqb (length (packed_bytes m y)) (bytes_for m) (packed_length m y))

  same_contents : text_contents c.held c.ones c.twos c.s ≡ packed_contents c.held c.ones c.twos (packed_bytes m y) c.s
  unfolding text_contents packed_contents_under
  same_contents =
      ap (first (planes_refusal c.ones c.twos c.held.k m)) (first_goes {x = packed_refusal m (packed_bytes m y)} refl (packed_accepted m y) refl)

  pub same_refusal : check_text_refusal c ≡ check_packed_refusal (made_check c)
  unfolding check_text_refusal check_packed_refusal_under
  same_refusal =
      let call = call_refusal c.held c.number (length c.ones) (length c.twos) (length c.work_ones) (length c.work_twos) in
      ap (first call) (ap₂ first same_lengths (ap (first (text_contents c.held c.ones c.twos c.s)) g ∙ sym (last_stage _) ∙ same_contents))

  same_counts : check_text_counts c ≡ held_counts c.held c.ones c.twos (packed_row (packed_bytes m y)) (packed_row c.s)
  same_counts =
      ap (λ (v : ℕ → Trit). held_counts c.held c.ones c.twos v (packed_row c.s))
      (sym (packed_back m y ∙ upto_ended y m (hashed_ended m c.salt c.text)))

  pub text_as_packed : check_text_answer c ≡ check_packed_answer (made_check c)
  unfolding check_text_answer check_packed_answer_under
  text_as_packed = ap₂ (λ (r : ℕ) (k : Counts). answered r k c.held.w) same_refusal same_counts

  -- and the working space is left as by that check
  same_space : (plane : List ℕ) → text_space_exit (check_text_refusal c) plane ≡ space_exit (check_packed_refusal (made_check c)) plane
  unfolding text_space_exit
  same_space plane =
      ap (λ (t : Bool). cond t (zero_words (length plane)) (space_exit (check_text_refusal c) plane)) (never_six c g)
      ∙ ap (λ (r : ℕ). space_exit r plane) same_refusal

  pub space_as_packed : (check_text_work_ones c ≡ check_packed_work_ones (made_check c)) × (check_text_work_twos c ≡ check_packed_work_twos (made_check c))
  space_as_packed = (same_space c.work_ones, same_space c.work_twos)

-- ---- yes

pub text_verdict : (c : TextCheck) → check_text_refusal c ≡ 0 → let h = c.held in
    ((check_text_answer c).yes ≡ 1)
    ↔ Found (row_trits h) h.k h.w (held_key h c.ones c.twos) (hashed_row (row_trits h) c.salt c.text) (packed_row c.s)
unfolding check_text_answer
text_verdict c e = rw e (found c.held c.ones c.twos (hashed_row (row_trits c.held) c.salt c.text) (packed_row c.s))

-- one word at most, under the key that a check finds held
pub text_once : (c : TextCheck) → check_text_refusal c ≡ 0 → let h = c.held in (v s e f : ℕ → Trit)
    → Extending (row_trits h) h.k (held_key h c.ones c.twos) v s e
    → Extending (row_trits h) h.k (held_key h c.ones c.twos) v s f → (q : ℕ) → q < h.n → e q ≡ f q
text_once c z v s e f =
    let t = tested c (passed_first (tested_of c) _ (text_parted c ∙ z)).0 in
    found_once c.held c.ones c.twos v s e f t.key_called.is_sound
