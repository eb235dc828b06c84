-- Demand 3, whole, in one record: what draws reach, what the verdict says, and both halves end to end. For all
-- sizes, over the answers of the calls and the words that they are lent. Assumes nothing.
use Rattle.std.specs.Prelude.{◌≡◌, true, ◌↔◌, List, ℕ, ◌<◌}
use Rattle.trits.specs.Planes.{trit_at}
use Rattle.packed.specs.Packed.{packed_row}
use Rattle.matrix.specs.Linear.{Vector}
use Rattle.syndrome.specs.Syndrome.{hashed_row}
use Rattle.held_key.specs.Held.{row_trits}
use Rattle.check_tests.specs.Check.{Check, check_answer, PackedCheck, check_packed_answer}
use Rattle.check_text.specs.TextCheck.{TextCheck, check_text_answer}
use Rattle.scheme.specs.declared.sizes.Sizes.{Sizes}
use Rattle.scheme.specs.Sizes.{sizes_fit, sized}
use Rattle.calls.specs.BuildCall.{BuildCall}
use Rattle.calls.specs.DrawCall.{DrawCall}
use Rattle.wave.specs.Terms.{Built, LentSyndrome, LentAs, Under, HandsOut, SomeDraw, KeyTerms}
use Rattle.wave.specs.Verifier.{HeldExtending, HeldFound, Host, carried_check, carried_planes, Signs, carried_text, Accepts}

pub record DemandThree : Type 0 where
  -- every syndrome: each y of n-k trits can be lent
  pub every_syndrome : (z : Sizes) (y : Vector) → LentAs z y
  -- reach: under any key that our builder released, at any g_V, g_U and w allowed, for any y, some draw releases a word exactly when the word meets the
  -- terms of that g_U and w
  pub reach : (z : Sizes) (i : BuildCall) → Built z i → (gv gu w : ℕ) → sizes_fit (sized z gv gu w) ≡ true → (y_ones y_twos : List ℕ)
      → LentSyndrome z y_ones y_twos → (e : Vector)
      → SomeDraw z i gv gu w y_ones y_twos e ↔ KeyTerms z i gu w y_ones y_twos e
  -- so the gap of V decides nothing here: draws at another one release the same words
  pub any_gap_of_v : (z : Sizes) (i : BuildCall) → Built z i → (gv other gu w : ℕ) → sizes_fit (sized z gv gu w) ≡ true
      → sizes_fit (sized z other gu w) ≡ true → (y_ones y_twos : List ℕ) → LentSyndrome z y_ones y_twos → (e : Vector)
      → SomeDraw z i gv gu w y_ones y_twos e ↔ SomeDraw z i other gu w y_ones y_twos e
  -- the verifier: a check that is not refused says yes exactly when some word of weight w that has the syndrome y under the held key extends s
  pub verifier : (c : Check) → (check_answer c).refusal ≡ 0
      → ((check_answer c).yes ≡ 1) ↔ HeldFound c.held c.ones c.twos (trit_at c.y_ones c.y_twos) (trit_at c.s_ones c.s_twos)
  -- and so does one of packed y and s
  pub packed_verifier : (c : PackedCheck) → (check_packed_answer c).refusal ≡ 0
      → ((check_packed_answer c).yes ≡ 1) ↔ HeldFound c.held c.ones c.twos (packed_row c.y) (packed_row c.s)
  -- and so does one of a salt and a text, on the y that they make
  pub text_verifier : (c : TextCheck) → (check_text_answer c).refusal ≡ 0 → ((check_text_answer c).yes ≡ 1)
      ↔ HeldFound c.held c.ones c.twos (hashed_row (row_trits c.held) c.salt c.text) (packed_row c.s)
  -- uniqueness: under the key that a check finds held, no two words of one syndrome extend one signature
  pub one_word : (c : Check) → (check_answer c).refusal ≡ 0 → (y s e f : Vector) → HeldExtending c.held c.ones c.twos y s e
      → HeldExtending c.held c.ones c.twos y s f
      → (q : ℕ) → q < c.held.n → e q ≡ f q
  pub packed_one_word : (c : PackedCheck) → (check_packed_answer c).refusal ≡ 0 → (y s e f : Vector) → HeldExtending c.held c.ones c.twos y s e
      → HeldExtending c.held c.ones c.twos y s f
      → (q : ℕ) → q < c.held.n → e q ≡ f q
  pub text_one_word : (c : TextCheck) → (check_text_answer c).refusal ≡ 0 → (y s e f : Vector) → HeldExtending c.held c.ones c.twos y s e
      → HeldExtending c.held c.ones c.twos y s f
      → (q : ℕ) → q < c.held.n → e q ≡ f q
  -- end to end: pack the rows of a built key, begin, store them, pack y and the s of a release, check: yes, with the ones and
  -- twos of the released word e, which add up to w
  pub end_to_end : (z : Sizes) (i : BuildCall) → Built z i → (gv gu w : ℕ) (l : DrawCall) (e : Vector) → Under z i l
      → HandsOut (sized z gv gu w) l e → (m : Host z)
      → Accepts z w e (check_packed_answer (carried_check z i gv gu w l m))
  -- and with y and s in planes
  pub end_to_end_planes : (z : Sizes) (i : BuildCall) → Built z i → (gv gu w : ℕ) (l : DrawCall) (e : Vector) → Under z i l
      → HandsOut (sized z gv gu w) l e → (m : Host z)
      → Accepts z w e (check_answer (carried_planes z i gv gu w l m))
  -- and with the salt and the text for which y was made
  pub end_to_end_text : (z : Sizes) (i : BuildCall) → Built z i → (gv gu w : ℕ) (l : DrawCall) (e : Vector) → Under z i l
      → HandsOut (sized z gv gu w) l e → (m : Host z) (salt text : List ℕ) → Signs z salt text l
      → Accepts z w e (check_text_answer (carried_text z i gv gu w l m salt text))
