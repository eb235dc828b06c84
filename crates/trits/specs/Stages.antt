-- The tests of a call as a list of stages, and what request C-20 changes in its answer: in the first buffer refused for its contents, where
-- both apply, 4 for 3. Assumes nothing.
use Rattle.std.specs.Prelude.{◌≡◌, Bool, true, false, ◌&&◌, ◌||◌, cond, ◌⊎◌, ◌≢◌, List, [], ◌∷◌, ℕ, eqb}
use Rattle.trits.specs.Planes.{both_set}
use Rattle.trits.specs.Rows.{rows_past_end}
use Rattle.trits.specs.Refusal.{refuse, first, PlanesTest}

-- the test of a pair of planes before the request: 3 over the whole buffer before 4
unfoldable pub both_first : PlanesTest
both_first ones twos rows m =
    refuse (both_set ones twos) 3
    (refuse (rows_past_end ones twos rows m) 4
    0)

-- one stage of the tests of a call
pub data Stage : Type 0 where
  -- the contents of a pair of planes: its ones, its twos, the number of rows, the trits of a row
  planes_stage : List ℕ → List ℕ → ℕ → ℕ → Stage
  -- any other test, by the number that it refuses with, or 0
  other_stage : ℕ → Stage

-- what a call answers: the first stage that refuses decides
unfoldable pub decided : PlanesTest → List Stage → ℕ
decided test [] = 0
decided test (planes_stage ones twos rows m ∷ rest) = first (test ones twos rows m) (decided test rest)
decided test (other_stage r ∷ rest) = first r (decided test rest)

-- "the first buffer refused for its contents has some bit set past the length and some bit set in both planes": they may be two
-- bits, in different rows; what comes after the first refusal is not looked at
unfoldable pub first_has_both : List Stage → Bool
first_has_both [] = false
first_has_both (planes_stage ones twos rows m ∷ rest) =
    let past = rows_past_end ones twos rows m in
    let both = both_set ones twos in
    cond (past || both) (past && both) (first_has_both rest)
first_has_both (other_stage r ∷ rest) = eqb r 0 && first_has_both rest

-- "they were 3 and become 4. No others do": two answers to one call are equal, or the old one is 3 and the new one 4; and they
-- differ exactly where `there` is true
pub record FourForThree (A : Type 0) (three four old new : A) (there : Bool) : Type 0 where
  pub either : (old ≡ new) ⊎ ((old ≡ three) × (new ≡ four))
  pub differ : there ≡ true → old ≢ new
  pub only : old ≢ new → there ≡ true
