-- Refusals, their numbers and their order ("Turned back by the input", "Turned back by the state"). Assumes nothing.
use Rattle.std.specs.Prelude.{Bool, ◌&&◌, ◌||◌, cond, List, ℕ, eqb, leb, length, Result, Ok, Err}
use Rattle.trits.specs.Planes.{Pair, pair_of, both_set, zero_words}
use Rattle.trits.specs.Rows.{rows_past_end}
use Rattle.trits.specs.declared.refusal.Refusal.{Refusal}
use Rattle.trits.specs.declared.refusal.Refusal.TheVariants.{Size, Length, BothPlanes, PastEnd, PackedByte, StreamEnd, NoPermutation, ZeroTrit, RankU}
use Rattle.trits.specs.declared.refusal.Refusal.TheVariants.{RankV, Line, FirstPartV, FirstPartU, Weight, PackedPastEnd, NoKey, WholeKey}
use Rattle.trits.specs.declared.refusal.Refusal.TheVariants.{OtherKey}

-- the paper's number of each refusal
abbrev pub number_of : Refusal → ℕ
number_of Size = 1
number_of Length = 2
number_of BothPlanes = 3
number_of PastEnd = 4
number_of PackedByte = 5
number_of StreamEnd = 6
number_of NoPermutation = 7
number_of ZeroTrit = 8
number_of RankU = 9
number_of RankV = 10
number_of Line = 11
number_of FirstPartV = 12
number_of FirstPartU = 13
number_of Weight = 14
number_of PackedPastEnd = 15
number_of NoKey = 20
number_of WholeKey = 21
number_of OtherKey = 22

-- the number that an outcome is told by: 0 where nothing is refused
abbrev pub code_of : Result Unit Refusal → ℕ
code_of (Ok u) = 0
code_of (Err r) = number_of r

-- ---- an order of tests: the first that applies decides, and a chain that ends in 0 refuses nothing

-- refused with this number where the test holds, else what follows decides
abbrev pub refuse : Bool → ℕ → ℕ → ℕ
refuse test n rest = cond test n rest

-- refused with this number where the test fails, else what follows decides
abbrev pub demand : Bool → ℕ → ℕ → ℕ
demand test n rest = cond test rest n

-- one group of tests after another: the first refusal, and where the first group refuses nothing the second decides
unfoldable pub first : ℕ → ℕ → ℕ
first a b = cond (eqb a 0) b a

-- "a refusal returns its number alone; state and output stay": what the state or a lent buffer is at exit
abbrev pub at_exit : {A : Type 0} → ℕ → A → A → A
at_exit refusal new old = cond (eqb refusal 0) new old

-- and what a lent pair of planes is
abbrev pub pair_at_exit : ℕ → Pair → Pair → Pair
pair_at_exit refusal new old = pair_of (at_exit refusal new.ones old.ones) (at_exit refusal new.twos old.twos)

-- "working space is untouched after 1 to 8, 11 and 20 to 22, and all zero after every other end, success included", and
-- untouched after 15 too (request C-14): a plane of it at exit
abbrev pub space_stays : ℕ → Bool
space_stays answer = (leb 1 answer && leb answer 8) || (eqb answer 11 || (eqb answer 15 || (leb 20 answer && leb answer 22)))

unfoldable pub space_exit : ℕ → List ℕ → List ℕ
space_exit answer plane = cond (space_stays answer) plane (zero_words (length plane))

-- and both of its planes
abbrev pub space_pair_exit : ℕ → Pair → Pair
space_pair_exit answer space = pair_of (space_exit answer space.ones) (space_exit answer space.twos)

-- ---- the contents of one pair of planes

-- how they are tested: from the ones, the twos, the number of rows and the trits of a row, the number of the refusal, or 0
abbrev pub PlanesTest : Type 0
PlanesTest = List ℕ → List ℕ → ℕ → ℕ → ℕ

-- 4 over the whole buffer before 3 (request C-20): within a pair of planes the lower number does not come first
unfoldable pub planes_refusal : PlanesTest
planes_refusal ones twos rows m =
    refuse (rows_past_end ones twos rows m) 4
    (refuse (both_set ones twos) 3
    0)
