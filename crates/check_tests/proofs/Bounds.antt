-- A check in a state whose key number is above neither of two bounds answers alike under both, however planes are tested (request C-15). Assumes nothing.
use mathlib.Core.Path.{◌≡◌, ap}
use mathlib.Core.List.{List}
use Prim.Native.Nat.{ℕ, ◌≤◌}
use Rattle.trits.specs.Trit.{Trit}
use Rattle.trits.specs.Planes.{trit_at}
use Rattle.trits.specs.Refusal.{PlanesTest}
use Rattle.packed.specs.Packed.{packed_row}
use Rattle.verdict.specs.Verdict.{Key, full_counts}
use Rattle.held_key.specs.declared.state.Held.{Held}
use Rattle.held_key.specs.Held.{row_trits}
use Rattle.held_key.proofs.Bounds.{sound_either, key_either}
use Rattle.check_tests.specs.Check.{Check, PackedCheck, call_refusal_under, check_refusal_under, check_packed_refusal_under, held_counts_under}
use Rattle.check_tests.specs.Check.{answered, check_answer_under, check_packed_answer_under}

module _ (a b : ℕ) (test : PlanesTest) where
  -- the counts of a full word
  counts_either : (h : Held) → h.number ≤ a → h.number ≤ b → (ones twos : List ℕ) (y s : ℕ → Trit)
      → held_counts_under a h ones twos y s ≡ held_counts_under b h ones twos y s
  unfolding held_counts_under
  counts_either h la lb ones twos y s = ap (λ (key : Key). full_counts (row_trits h) h.k key y s) (key_either a b h la lb ones twos)

  module _ (c : Check) (la : c.held.number ≤ a) (lb : c.held.number ≤ b) where
    refusal_either : check_refusal_under a test c ≡ check_refusal_under b test c
    unfolding check_refusal_under call_refusal_under
    refusal_either = rw (sound_either a b c.held la lb)

    pub check_either : check_answer_under a test c ≡ check_answer_under b test c
    unfolding check_answer_under
    check_either =
        let counts = counts_either c.held la lb c.ones c.twos (trit_at c.y_ones c.y_twos) (trit_at c.s_ones c.s_twos) in
        λ i. answered (refusal_either i) (counts i) c.held.w

  module _ (c : PackedCheck) (la : c.held.number ≤ a) (lb : c.held.number ≤ b) where
    packed_refusal_either : check_packed_refusal_under a test c ≡ check_packed_refusal_under b test c
    unfolding check_packed_refusal_under call_refusal_under
    packed_refusal_either = rw (sound_either a b c.held la lb)

    pub check_packed_either : check_packed_answer_under a test c ≡ check_packed_answer_under b test c
    unfolding check_packed_answer_under
    check_packed_either =
        let counts = counts_either c.held la lb c.ones c.twos (packed_row c.y) (packed_row c.s) in
        λ i. answered (packed_refusal_either i) (counts i) c.held.w
