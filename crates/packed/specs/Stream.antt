-- A supplied byte stream becomes m trits ("Trits in words and bytes", last paragraph). It is no packed row: what its last
-- byte holds past the length is not looked at, and no stream is refused 15 (request C-14). Assumes nothing.
use Rattle.std.specs.Prelude.{Bool, cond, List, [], ◌∷◌, ℕ, ◌*◌, ltb, length}
use Rattle.trits.specs.Trit.{Trit, up_to}
use Rattle.packed.specs.Packed.{packed_row}

-- the bytes that give trits: those of 243 or more are skipped
unfoldable pub kept : List ℕ → List ℕ
kept [] = []
kept (b ∷ bytes) = cond (ltb b 243) (b ∷ kept bytes) (kept bytes)

-- each gives five trits, the last only as many as are missing: the first m of them all
unfoldable pub stream_row : ℕ → List ℕ → ℕ → Trit
stream_row m bytes = up_to m (packed_row (kept bytes))

-- "the stream ends too soon" ("Turned back by the input", 6)
unfoldable pub too_short : ℕ → List ℕ → Bool
too_short m bytes = ltb (5 * length (kept bytes)) m
