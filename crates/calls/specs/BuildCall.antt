-- The call `build`: its refusals in the paper's order, and each lent buffer at exit ("Building a
-- key", "Turned back by the input", "Turned back by the state"). Assumes nothing.
-- What depends on the test of the gaps, or of a pair of planes, is defined with any other in its place, by a name that ends in `Under`.
use Rattle.std.specs.Prelude.{Bool, ◌||◌, List, ℕ, ◌+◌, ◌*◌, length}
use Rattle.trits.specs.Trit.{up_to}
use Rattle.trits.specs.Planes.{Pair, pair_of, words_for, ones_of, twos_of}
use Rattle.trits.specs.Rows.{rows_of}
use Rattle.trits.specs.Refusal.{refuse, demand, first, at_exit, pair_at_exit, space_pair_exit, PlanesTest, planes_refusal}
use Rattle.matrix.specs.Orders.{is_order}
use Rattle.scheme.specs.declared.sizes.Sizes.{Sizes}
use Rattle.scheme.specs.Sizes.{places, dim, codim, GapsTest, gaps_fit, sizes_fit_under}
use Rattle.scheme.specs.Secret.{Secret}
use Rattle.scheme.specs.Build.{build_refusal, key_order, key_row}
use Rattle.calls.specs.Lent.{Planes, half_words, secret_of, pair_differs, differs, secret_refusal_under}

-- ---- what is lent

-- the secret and the starting order; then p, the key and the working space as they are at entry
pub record BuildCall : Type 0 where
  pub secret : Planes
  pub start : List ℕ
  pub p : List ℕ
  pub key : Pair
  pub work : Pair

abbrev pub build_call : Planes → List ℕ → List ℕ → List ℕ → List ℕ → List ℕ → List ℕ → BuildCall
build_call s start p ko kt wo wt = record { secret = s; start = start; p = p; key = pair_of ko kt; work = pair_of wo wt }

-- ---- 2: a length differs from what the sizes say

-- the words of a row of the key
abbrev pub key_row_words : Sizes → ℕ
key_row_words z = words_for (codim z)

-- the words of a working plane: the secret matrix, and three tables of 81 rows
abbrev pub build_work_words : Sizes → ℕ
build_work_words z = (codim z + 243) * (half_words z + half_words z)

-- the lengths of the starting order, p, the key and the working space
unfoldable pub key_differs : Sizes → ℕ → ℕ → ℕ → ℕ → ℕ → ℕ → Bool
key_differs z s p k1 k2 w1 w2 = pair_differs (places z) s p || (pair_differs (dim z * key_row_words z) k1 k2 || pair_differs (build_work_words z) w1 w2)

-- every length
unfoldable pub build_lengths_differ : Sizes → BuildCall → Bool
build_lengths_differ z i =
    differs z i.secret
    || key_differs z (length i.start) (length i.p) (length i.key.ones) (length i.key.twos) (length i.work.ones) (length i.work.twos)

-- ---- the answer: 1, every length, the contents of the secret and of the starting order, then 9 and 10
unfoldable pub build_answer_under : GapsTest → PlanesTest → Sizes → BuildCall → ℕ
build_answer_under gaps test z i =
    demand (sizes_fit_under gaps z) 1
    (refuse (build_lengths_differ z i) 2
    (first (secret_refusal_under test z i.secret)
    (demand (is_order (places z) i.start) 7
    (build_refusal z (secret_of z i.secret)))))

abbrev pub build_answer : Sizes → BuildCall → ℕ
build_answer z i = build_answer_under gaps_fit planes_refusal z i

-- ---- each lent buffer at exit

-- the final order
unfoldable pub order_exit_under : GapsTest → Sizes → BuildCall → List ℕ
order_exit_under gaps z i = at_exit (build_answer_under gaps planes_refusal z i) (key_order z (secret_of z i.secret) i.start) i.p

abbrev pub order_exit : Sizes → BuildCall → List ℕ
order_exit z i = order_exit_under gaps_fit z i

-- R: k rows of n-k trits, one after another, each beginning a new word
unfoldable pub key_ones_of : Sizes → Secret → List ℕ → List ℕ
key_ones_of z s start = rows_of (λ j. ones_of (up_to (codim z) (key_row z s start j)) (key_row_words z)) (dim z)

unfoldable pub key_twos_of : Sizes → Secret → List ℕ → List ℕ
key_twos_of z s start = rows_of (λ j. twos_of (up_to (codim z) (key_row z s start j)) (key_row_words z)) (dim z)

unfoldable pub key_exit_under : GapsTest → Sizes → BuildCall → Pair
key_exit_under gaps z i =
    let s = secret_of z i.secret in
    pair_at_exit (build_answer_under gaps planes_refusal z i) (pair_of (key_ones_of z s i.start) (key_twos_of z s i.start)) i.key

abbrev pub key_exit : Sizes → BuildCall → Pair
key_exit z i = key_exit_under gaps_fit z i

-- the working space
unfoldable pub build_work_exit_under : GapsTest → Sizes → BuildCall → Pair
build_work_exit_under gaps z i = space_pair_exit (build_answer_under gaps planes_refusal z i) i.work

abbrev pub build_work_exit : Sizes → BuildCall → Pair
build_work_exit z i = build_work_exit_under gaps_fit z i
