-- Computed: the contents of a check, buffer after buffer, 4 before 3 in each (request C-20). Assumes nothing.
use mathlib.Core.Path.{◌≡◌, refl}
use mathlib.Core.List.{[], ◌∷◌}
use Prim.Native.Nat.{ℕ}
use Rattle.trits.specs.Trit.{any_to}
use Rattle.trits.specs.Planes.{bit, bit_at, both_set, past_end}
use Rattle.trits.specs.Rows.{row_part, rows_past_end}
use Rattle.trits.specs.Refusal.{first, planes_refusal}
use Rattle.packed.specs.Packed.{packed_row, digit_of, bad_byte, packed_past_end, packed_refusal}
use Rattle.held_key.specs.declared.state.Held.{Held}
use Rattle.check_tests.specs.Check.{planes_contents, planes_contents_under, packed_contents, packed_contents_under}

-- a whole key of two rows of two trits each
abbrev whole : Held
whole = record { begun = 1; number = 7; n = 4; k = 2; w = 4; rows = 2 }

-- in planes: the words of the two rows, of y and of s, each in ones and twos
abbrev in_planes : ℕ → ℕ → ℕ → ℕ → ℕ → ℕ → ℕ → ℕ → ℕ
in_planes o1 o2 t1 t2 yo yt so st = planes_contents whole (o1 ∷ o2 ∷ []) (t1 ∷ t2 ∷ []) (yo ∷ []) (yt ∷ []) (so ∷ []) (st ∷ [])

-- in each buffer 4 before 3: in the held rows either way round, in y, in s
past_first : (in_planes 4 1 0 1 1 1 0 0 ≡ 4) × (in_planes 1 0 1 4 1 1 0 0 ≡ 4) × (in_planes 0 0 2 3 5 1 1 1 ≡ 4) × (in_planes 0 0 2 3 1 2 4 4 ≡ 4)
unfolding planes_contents_under first planes_refusal rows_past_end row_part past_end both_set any_to bit_at bit
past_first = (refl, refl, refl, refl)

-- 3 in the held rows before 4 in y, and 3 in y before 4 in s; 4 in y before 3 in s
buffer_first : (in_planes 0 1 2 3 5 1 0 0 ≡ 3) × (in_planes 0 0 2 3 1 1 4 0 ≡ 3) × (in_planes 0 0 2 3 4 0 1 1 ≡ 4)
unfolding planes_contents_under first planes_refusal rows_past_end row_part past_end both_set any_to bit_at bit
buffer_first = (refl, refl, refl)

-- packed y and s: the held rows as above, and 5 and 15 after them in their own order
abbrev in_bytes : ℕ → ℕ → ℕ → ℕ → ℕ → ℕ → ℕ
in_bytes o1 o2 t1 t2 y s = packed_contents whole (o1 ∷ o2 ∷ []) (t1 ∷ t2 ∷ []) (y ∷ []) (s ∷ [])

packed_after_law : (in_bytes 4 1 0 1 243 243 ≡ 4) × (in_bytes 0 1 2 3 243 243 ≡ 3) × (in_bytes 0 0 2 3 243 9 ≡ 5) × (in_bytes 0 0 2 3 9 243 ≡ 15)
unfolding packed_contents_under first planes_refusal rows_past_end row_part past_end both_set any_to bit_at bit packed_refusal bad_byte
    packed_past_end packed_row digit_of
packed_after_law = (refl, refl, refl, refl)
