-- The choices that the program makes up, as its contracts cite them: none of them is the paper's, which leaves all choices to the caller. Assumes nothing.
pub mod Steps
use Rattle.std.specs.Prelude.{cond, List, [], ◌∷◌, ◌++◌, ℕ, zero, suc, ◌+◌, ◌-◌, ◌*◌, ◌%◌, ltb}

-- the number that follows x in a sequence of numbers below 65,537
abbrev pub following : ℕ → ℕ
following x = (75 * (x % 65537) + 74) % 65537

-- the number j steps after x
unfoldable pub number_after : ℕ → ℕ → ℕ
number_after zero x = x
number_after (suc j) x = following (number_after j x)

-- packed bytes, one by each of the j numbers after x
unfoldable pub packed_after : ℕ → ℕ → List ℕ
packed_after zero x = []
packed_after (suc j) x = packed_after j x ++ (number_after (suc j) x % 243 ∷ [])

-- the place a further on, of n places in a ring
unfoldable pub turned : ℕ → ℕ → ℕ → ℕ
turned n a q = cond (ltb (q + a) n) (q + a) (q + a - n)

-- the place that is reached from b in j steps of a
unfoldable pub ring_place : ℕ → ℕ → ℕ → ℕ → ℕ
ring_place n a b zero = b
ring_place n a b (suc j) = turned n a (ring_place n a b j)

-- the first j of these places
unfoldable pub ring_order : ℕ → ℕ → ℕ → ℕ → List ℕ
ring_order n a b zero = []
ring_order n a b (suc j) = ring_order n a b j ++ (ring_place n a b j ∷ [])
