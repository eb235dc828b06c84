-- Five trits to a byte (the paper's "Trits in words and bytes", packed form, and request C-14). Assumes nothing.
use Rattle.std.specs.Prelude.{Bool, List, ℕ, ◌+◌, ◌-◌, ◌*◌, ◌/◌, ◌%◌, ◌^◌, ltb, length, get_or}
use Rattle.trits.specs.Trit.{Trit, number, trit_of, is_set, any_to, up_to}
use Rattle.trits.specs.Planes.{tabulate}
use Rattle.trits.specs.Refusal.{refuse}

-- the bytes that a row of m trits takes
abbrev pub bytes_for : ℕ → ℕ
bytes_for m = (m + 4) / 5

-- byte j of a vector: the first trit times 1, then times 3, 9, 27, 81
unfoldable pub byte_of : (ℕ → Trit) → ℕ → ℕ
byte_of v j =
    number (v (5 * j)) + 3 * number (v (5 * j + 1)) + 9 * number (v (5 * j + 2)) + 27 * number (v (5 * j + 3)) + 81 * number (v (5 * j + 4))

-- digit k of a byte, to the base 3: the number that is taken times 3 ^ k
unfoldable pub digit_of : ℕ → ℕ → ℕ
digit_of b k = b / 3 ^ k % 3

-- the byte table: the five digits of each byte from 0 to 242, one byte after another
unfoldable pub byte_table : List ℕ
byte_table = tabulate (λ i. digit_of (i / 5) (i % 5)) 1215

-- the row that bytes hold: place p is digit p % 5 of byte p / 5; past the bytes there is 0
unfoldable pub packed_row : List ℕ → ℕ → Trit
packed_row bytes p = trit_of (digit_of (get_or bytes (p / 5) 0) (p % 5))

-- the bytes of a row of m trits: in the last byte the trits past the length are 0
unfoldable pub packed_bytes : ℕ → (ℕ → Trit) → List ℕ
packed_bytes m v = tabulate (byte_of (up_to m v)) (bytes_for m)

-- ---- the two faults of packed bytes

-- "a packed byte above 242" ("Turned back by the input", 5)
unfoldable pub bad_byte : List ℕ → Bool
bad_byte bytes = any_to (λ i. ltb 242 (get_or bytes i 0)) (length bytes)

-- "a nonzero trit past the length" (request C-14, 15), in the bytes of a row of m trits
unfoldable pub packed_past_end : ℕ → List ℕ → Bool
packed_past_end m bytes = any_to (λ k. is_set (packed_row bytes (m + k))) (5 * length bytes - m)

-- the contents of a packed row of m trits: 5 over the whole buffer before 15
unfoldable pub packed_refusal : ℕ → List ℕ → ℕ
packed_refusal m bytes =
    refuse (bad_byte bytes) 5
    (refuse (packed_past_end m bytes) 15
    0)
