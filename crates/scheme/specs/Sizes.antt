-- The sizes ("The two halves"; the gaps by request C-18). Assumes nothing.
use Rattle.std.specs.Prelude.{Bool, ◌&&◌, ℕ, ◌+◌, ◌-◌, ◌/◌, ◌%◌, eqb, leb}
use Rattle.trits.specs.Planes.{words_for}
pub use Rattle.scheme.specs.declared.sizes.Sizes.{Sizes}
pub use Rattle.scheme.specs.declared.sizes.Shape.{Shape}

-- N, the number of pairs
abbrev pub half : Sizes → ℕ
half z = z.n / 2

-- n again, as two for each pair
abbrev pub places : Sizes → ℕ
places z = half z + half z

-- k, the trits of a signature
abbrev pub dim : Sizes → ℕ
dim z = z.ku + z.kv

-- r_U, the rows of H_U
abbrev pub ru : Sizes → ℕ
ru z = half z - z.ku

-- r_V, the rows of H_V
abbrev pub rv : Sizes → ℕ
rv z = half z - z.kv

-- n-k, the rows of both: the trits of a syndrome and of a row of the key
abbrev pub codim : Sizes → ℕ
codim z = ru z + rv z

-- g_V, the gap of V, read here alone
abbrev pub gap_v : Sizes → ℕ
gap_v z = z.gv

-- g_U, the gap of U, read here alone
abbrev pub gap_u : Sizes → ℕ
gap_u z = z.gu

-- the same sizes with other gaps and another w
abbrev pub sized : Sizes → ℕ → ℕ → ℕ → Sizes
sized z gv gu w = record { n = z.n; ku = z.ku; kv = z.kv; gv = gv; gu = gu; w = w }

-- a test of the gaps: the one below, or the one of before (request C-18)
abbrev pub GapsTest : Type 0
GapsTest = Sizes → Bool

-- whether g_U is from 0 to k_U, and g_V from 0 to k_V
unfoldable pub gaps_fit : GapsTest
gaps_fit z = leb (gap_u z) z.ku && leb (gap_v z) z.kv

-- whether n is even and from 4 to 16,384, k_U and k_V are from 1 to N-1, the gaps pass their test, and w is from 1 to n
unfoldable pub sizes_fit_under : GapsTest → Sizes → Bool
sizes_fit_under gaps z =
    leb 4 z.n && (leb z.n 16384 && (eqb (z.n % 2) 0 && (leb 1 z.ku && (leb z.ku (half z - 1) && (leb 1 z.kv && (leb z.kv (half z - 1)
    && (gaps z && (leb 1 z.w && leb z.w z.n))))))))

abbrev pub sizes_fit : Sizes → Bool
sizes_fit z = sizes_fit_under gaps_fit z

-- N, the words of a row of N trits, r_U and r_V, taken together
abbrev pub shape_of : Sizes → Shape
shape_of z = record { half = half z; words = words_for (half z); ru = ru z; rv = rv z }
