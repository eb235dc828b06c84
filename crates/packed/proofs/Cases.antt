-- The paper's starred cases of packing ("At the edges"), computed over the definitions that the contracts cite. Assumes nothing.
use mathlib.Core.Path.{◌≡◌, refl}
use mathlib.Core.Bool.{Bool, false, not, ◌&&◌}
use mathlib.Core.List.{List, [], ◌∷◌, ◌++◌}
use Prim.Native.Nat.{ℕ, ◌+◌, ◌*◌, ◌%◌, ◌^◌}
use lib.Dec.{eqb, leb, ltb}
use lib.ListN.{get_or}
use Rattle.trits.specs.Trit.{Trit, t0, t1, t2, any_to, up_to}
use Rattle.trits.specs.Planes.{bit, from_bits, bit_at, trit_at, tabulate, ones_of, twos_of, both_set, past_end}
use Rattle.trits.specs.Rows.{row_part, rows_past_end}
use Rattle.trits.specs.Refusal.{refuse, planes_refusal}
use Rattle.packed.specs.Packed.{byte_of, digit_of, byte_table, packed_row, packed_bytes, bad_byte, packed_past_end, packed_refusal}
use Rattle.packed.specs.Stream.{kept, stream_row, too_short}
use Rattle.packed.specs.Steps.{piece_of, byte_masks, five_digits, five_trits, byte_from}
use Rattle.packed.specs.Calls.{pack_of, pack_refusal, pack_refusal_under, pack_exit, unpack_of, unpack_refusal, unpack_ones, unpack_twos}
use Rattle.packed.specs.Calls.{stream_of, stream_refusal, stream_ones, stream_twos}

-- a list of trits as a vector
abbrev vector : List Trit → ℕ → Trit
vector l i = get_or l i t0

-- ★ trits 1,2,0,0,1 pack to 88: by the rule, and by the call from planes ones = 1 + 16, twos = 2
pub five_pack : packed_bytes 5 (vector (t1 ∷ t2 ∷ t0 ∷ t0 ∷ t1 ∷ [])) ≡ 88 ∷ []
unfolding packed_bytes tabulate byte_of up_to
five_pack = refl

pub five_call : pack_exit (pack_of 5 (17 ∷ []) (2 ∷ []) (99 ∷ [])) ≡ 88 ∷ []
unfolding pack_exit pack_refusal_under planes_refusal both_set rows_past_end row_part past_end any_to bit_at bit packed_bytes tabulate byte_of up_to trit_at
five_call = refl

-- and from their bits, five of each plane; five trits of 2 from theirs, after five of 0
pub five_bits : (five_trits 17 2 ≡ 88) × (byte_from 0 (31 * 2 ^ 5) 1 ≡ 242)
unfolding byte_from five_trits five_digits bit
five_bits = (refl, refl)

-- the mask of 88 has the same bits, those of the twos times 2 ^ 32
pub five_mask : get_or byte_masks 88 0 ≡ 17 + 2 ^ 32 * 2
unfolding byte_masks piece_of byte_table tabulate from_bits digit_of
five_mask = refl

-- ★ 242 reads 2,2,2,2,2
pub five_read : (packed_row (242 ∷ []) 0 ≡ t2) × (packed_row (242 ∷ []) 1 ≡ t2) × (packed_row (242 ∷ []) 2 ≡ t2) × (packed_row (242 ∷ []) 3 ≡ t2)
    × (packed_row (242 ∷ []) 4 ≡ t2)
unfolding packed_row digit_of
five_read = (refl, refl, refl, refl, refl)

pub five_unpack : (unpack_ones (unpack_of 5 (242 ∷ []) (7 ∷ []) (9 ∷ [])) ≡ 0 ∷ [])
    × (unpack_twos (unpack_of 5 (242 ∷ []) (7 ∷ []) (9 ∷ [])) ≡ 31 ∷ [])
unfolding unpack_ones unpack_twos unpack_refusal packed_refusal bad_byte packed_past_end ones_of twos_of tabulate from_bits packed_row digit_of up_to any_to
five_unpack = (refl, refl)

-- ★ 243 gives 5, and the planes stay
pub large_refused : (unpack_refusal (unpack_of 5 (243 ∷ []) (7 ∷ []) (9 ∷ [])) ≡ 5)
    × (unpack_ones (unpack_of 5 (243 ∷ []) (7 ∷ []) (9 ∷ [])) ≡ 7 ∷ []) × (unpack_twos (unpack_of 5 (243 ∷ []) (7 ∷ []) (9 ∷ [])) ≡ 9 ∷ [])
unfolding unpack_ones unpack_twos unpack_refusal packed_refusal bad_byte packed_past_end any_to
large_refused = (refl, refl, refl)

-- a nonzero trit past the length gives 15, and the planes stay: 242 as a row of two trits; 8 is 2,2 and passes
pub past_refused : (unpack_refusal (unpack_of 2 (242 ∷ []) (7 ∷ []) (9 ∷ [])) ≡ 15)
    × (unpack_ones (unpack_of 2 (242 ∷ []) (7 ∷ []) (9 ∷ [])) ≡ 7 ∷ []) × (unpack_twos (unpack_of 2 (242 ∷ []) (7 ∷ []) (9 ∷ [])) ≡ 9 ∷ [])
unfolding unpack_ones unpack_twos unpack_refusal packed_refusal bad_byte packed_past_end packed_row digit_of any_to
past_refused = (refl, refl, refl)

pub past_zeros : unpack_twos (unpack_of 2 (8 ∷ []) (7 ∷ []) (9 ∷ [])) ≡ 3 ∷ []
unfolding unpack_twos unpack_refusal packed_refusal bad_byte packed_past_end twos_of tabulate from_bits packed_row digit_of any_to
past_zeros = refl

-- 5 comes first, wherever in the bytes it stands
pub large_first : (packed_refusal 7 (243 ∷ 242 ∷ []) ≡ 5) × (packed_refusal 7 (242 ∷ 243 ∷ []) ≡ 5) × (packed_refusal 7 (242 ∷ 242 ∷ []) ≡ 15)
unfolding packed_refusal bad_byte packed_past_end packed_row digit_of any_to
large_first = (refl, refl, refl)

-- the rule in numbers, of the last byte b of a row of m trits: above 242 it is 5; q = m % 5 of its trits are the row's, and from 3 ^ q on it is 15,
-- unless q is 0
abbrev by_number : ℕ → ℕ → ℕ
by_number m b = refuse (ltb 242 b) 5 (refuse (ltb 0 (m % 5) && leb (3 ^ (m % 5)) b) 15 0)

-- whether some last byte from 0 to 255, after these bytes, is told otherwise
abbrev told_otherwise : ℕ → List ℕ → Bool
told_otherwise m before = any_to (λ b. not (eqb (packed_refusal m (before ++ b ∷ [])) (by_number m b))) 256

-- every last byte at every m % 5: alone, and after a byte whose trits are all 2; no trits are no bytes
pub last_bytes : (told_otherwise 1 [] ≡ false) × (told_otherwise 2 [] ≡ false) × (told_otherwise 3 [] ≡ false) × (told_otherwise 4 [] ≡ false)
    × (told_otherwise 5 [] ≡ false)
unfolding packed_refusal bad_byte packed_past_end packed_row digit_of any_to
last_bytes = (refl, refl, refl, refl, refl)

pub last_of_two : (told_otherwise 6 (242 ∷ []) ≡ false) × (told_otherwise 7 (242 ∷ []) ≡ false) × (told_otherwise 8 (242 ∷ []) ≡ false)
    × (told_otherwise 9 (242 ∷ []) ≡ false) × (told_otherwise 10 (242 ∷ []) ≡ false)
unfolding packed_refusal bad_byte packed_past_end packed_row digit_of any_to
last_of_two = (refl, refl, refl, refl, refl)

pub no_byte : packed_refusal 0 [] ≡ 0
unfolding packed_refusal bad_byte packed_past_end any_to
no_byte = refl

-- 242 as a stream of two trits is not refused, though as a packed row it is: what the last byte holds past them is not looked at
pub stream_past : (packed_refusal 2 (242 ∷ []) ≡ 15) × (stream_refusal (stream_of 2 (242 ∷ []) (7 ∷ []) (9 ∷ [])) ≡ 0)
    × (stream_twos (stream_of 2 (242 ∷ []) (7 ∷ []) (9 ∷ [])) ≡ 3 ∷ [])
unfolding stream_twos stream_refusal too_short kept twos_of tabulate from_bits stream_row packed_row digit_of up_to packed_refusal bad_byte
    packed_past_end any_to
stream_past = (refl, refl, refl)

-- a byte of 243 or more is skipped, and the last byte gives only what is missing
pub stream_skips : (stream_ones (stream_of 6 (243 ∷ 1 ∷ 255 ∷ 4 ∷ 9 ∷ []) (7 ∷ []) (9 ∷ [])) ≡ 33 ∷ [])
    × (stream_twos (stream_of 6 (243 ∷ 1 ∷ 255 ∷ 4 ∷ 9 ∷ []) (7 ∷ []) (9 ∷ [])) ≡ 0 ∷ [])
unfolding stream_ones stream_twos stream_refusal too_short kept ones_of twos_of tabulate from_bits stream_row packed_row digit_of up_to
stream_skips = (refl, refl)

-- six trits of one byte that counts: 6
pub stream_short : stream_refusal (stream_of 6 (243 ∷ 1 ∷ 255 ∷ []) (7 ∷ []) (9 ∷ [])) ≡ 6
unfolding stream_refusal too_short kept
stream_short = refl

-- a bit in both planes past the length is 4, and so are a bit past the length and another in both planes before it
pub past_first : pack_refusal (pack_of 2 (4 ∷ []) (4 ∷ []) (0 ∷ [])) ≡ 4
unfolding pack_refusal_under planes_refusal both_set rows_past_end row_part past_end any_to bit_at bit
past_first = refl

pub past_beside : pack_refusal (pack_of 2 (1 ∷ []) (5 ∷ []) (0 ∷ [])) ≡ 4
unfolding pack_refusal_under planes_refusal both_set rows_past_end row_part past_end any_to bit_at bit
past_beside = refl

-- each alone: 3, 4
pub both_alone : pack_refusal (pack_of 2 (1 ∷ []) (1 ∷ []) (0 ∷ [])) ≡ 3
unfolding pack_refusal_under planes_refusal both_set rows_past_end row_part past_end any_to bit_at bit
both_alone = refl

pub past_alone : pack_refusal (pack_of 2 (4 ∷ []) (0 ∷ []) (0 ∷ [])) ≡ 4
unfolding pack_refusal_under planes_refusal both_set rows_past_end row_part past_end any_to bit_at bit
past_alone = refl

-- 16,385 trits are 1 in all three calls, and 16,384 pass that test
pub too_many : (pack_refusal (pack_of 16385 [] [] []) ≡ 1) × (unpack_refusal (unpack_of 16385 [] [] []) ≡ 1) × (stream_refusal (stream_of 16385 [] [] []) ≡ 1)
unfolding pack_refusal_under unpack_refusal stream_refusal
too_many = (refl, refl, refl)

pub most_many : (pack_refusal (pack_of 16384 [] [] []) ≡ 2) × (unpack_refusal (unpack_of 16384 [] [] []) ≡ 2)
    × (stream_refusal (stream_of 16384 [] [] []) ≡ 2)
unfolding pack_refusal_under unpack_refusal stream_refusal
most_many = (refl, refl, refl)
