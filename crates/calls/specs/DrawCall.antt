-- The call `draw`: its refusals in the paper's order, and each lent buffer at exit ("One draw",
-- "Turned back by the input", "Turned back by the state"). Assumes nothing.
-- What depends on the test of the gaps, or of a pair of planes, is defined with any other in its place, by a name that ends in `Under`.
use Rattle.std.specs.Prelude.{Bool, not, ◌||◌, cond, List, ℕ, ◌+◌, ◌-◌, ◌*◌, eqb, ltb, length}
use Rattle.trits.specs.Planes.{Pair, pair_of, row_pair, trit_at, words_for}
use Rattle.trits.specs.Refusal.{refuse, demand, first, pair_at_exit, space_pair_exit, PlanesTest, planes_refusal}
use Rattle.matrix.specs.Linear.{Vector}
use Rattle.matrix.specs.Orders.{is_order}
use Rattle.scheme.specs.declared.sizes.Sizes.{Sizes}
use Rattle.scheme.specs.Sizes.{half, places, dim, ru, rv, codim, gap_u, GapsTest, gaps_fit, sizes_fit_under}
use Rattle.scheme.specs.Draw.{Choices, drawn, draw_refusal, signature}
use Rattle.trits.specs.declared.Planes.{Planes as LentPlanes}
use Rattle.calls.specs.declared.lent.SecretPlanes.{SecretPlanes}
use Rattle.calls.specs.declared.lent.Choices.{Choices as LentChoices}
use Rattle.calls.specs.Lent.{Planes, planes_of, half_words, secret_of, pair_differs, differs, secret_refusal_under}
use Rattle.scheme.specs.Secret.{has_zero}

-- ---- what is lent

-- the secret, p, y, the V order and trits, the U order and values; then the word, s and the working space as they are at entry
pub record DrawCall : Type 0 where
  pub secret : Planes
  pub p : List ℕ
  pub y : Pair
  pub order_v : List ℕ
  pub v : Pair
  pub order_u : List ℕ
  pub u : Pair
  pub word : Pair
  pub s : Pair
  pub work : Pair

abbrev pub draw_call : Planes → List ℕ → List ℕ → List ℕ → List ℕ → List ℕ → List ℕ → List ℕ
    → List ℕ → List ℕ → List ℕ → List ℕ → List ℕ → List ℕ → List ℕ → List ℕ → DrawCall
draw_call s p yo yt ov vo vt ou uo ut eo et so st wo wt = record {
  secret = s;
  p = p;
  y = pair_of yo yt;
  order_v = ov;
  v = pair_of vo vt;
  order_u = ou;
  u = pair_of uo ut;
  word = pair_of eo et;
  s = pair_of so st;
  work = pair_of wo wt;
}

-- that call from what the code is lent
abbrev pub draw_lent : SecretPlanes → List ℕ → LentPlanes → LentChoices → List ℕ → List ℕ → List ℕ → List ℕ → List ℕ → List ℕ → DrawCall
draw_lent s p y ch =
    draw_call (planes_of s) p y.ones.now y.twos.now
    ch.v_order.now ch.v.ones.now ch.v.twos.now ch.u_order.now ch.u.ones.now ch.u.twos.now

-- the syndrome and the choices that it holds
abbrev pub syndrome_of : DrawCall → Vector
syndrome_of i = trit_at i.y.ones i.y.twos

abbrev pub choices_of : DrawCall → Choices
choices_of i = record { order_v = i.order_v; trits_v = trit_at i.v.ones i.v.twos; order_u = i.order_u; values_u = trit_at i.u.ones i.u.twos }

-- ---- 2: a length differs from what the sizes say

-- the rows of the matrix under elimination: as many as the larger of H_U and H_V has
abbrev pub matrix_rows : Sizes → ℕ
matrix_rows z = cond (ltb (ru z) (rv z)) (rv z) (ru z)

-- the words of a working plane: the matrix under elimination, three tables of 81 rows, five rows
abbrev pub draw_work_words : Sizes → ℕ
draw_work_words z = (matrix_rows z + 248) * half_words z

-- the lengths of p, y, the V order, the V trits, the U order, the U values, the word, s and the working space
unfoldable pub choices_differ : Sizes → ℕ → ℕ → ℕ → ℕ → ℕ → ℕ → ℕ → ℕ → ℕ
    → ℕ → ℕ → ℕ → ℕ → ℕ → ℕ → Bool
choices_differ z p y1 y2 ov v1 v2 ou u1 u2 e1 e2 s1 s2 w1 w2 =
    not (eqb p (places z))
    || (pair_differs (words_for (codim z)) y1 y2
    || (pair_differs (half z) ov ou
    || (pair_differs (words_for z.kv) v1 v2
    || (pair_differs (words_for z.ku) u1 u2
    || (pair_differs (words_for (places z)) e1 e2
    || (pair_differs (words_for (dim z)) s1 s2
    || pair_differs (draw_work_words z) w1 w2))))))

-- those of what the code is lent
abbrev pub lent_differ : Sizes → List ℕ → LentPlanes → LentChoices → LentPlanes → LentPlanes → LentPlanes → Bool
lent_differ z p y ch e s w =
    choices_differ z (length p) (length y.ones.now) (length y.twos.now) (length ch.v_order.now) (length ch.v.ones.now) (length ch.v.twos.now)
    (length ch.u_order.now) (length ch.u.ones.now) (length ch.u.twos.now)
    (length e.ones.now) (length e.twos.now) (length s.ones.now) (length s.twos.now) (length w.ones.now) (length w.twos.now)

-- every length
unfoldable pub draw_lengths_differ : Sizes → DrawCall → Bool
draw_lengths_differ z i =
    differs z i.secret
    || choices_differ z (length i.p) (length i.y.ones) (length i.y.twos) (length i.order_v) (length i.v.ones) (length i.v.twos)
    (length i.order_u) (length i.u.ones) (length i.u.twos)
    (length i.word.ones) (length i.word.twos) (length i.s.ones) (length i.s.twos) (length i.work.ones) (length i.work.twos)

-- ---- 4, 3, 7 and 8: the contents, buffer after buffer

-- a 0 among the U values from g_U on, used or not
abbrev pub last_has_zero : Sizes → DrawCall → Bool
last_has_zero z i = has_zero (z.ku - gap_u z) (λ j. trit_at i.u.ones i.u.twos (gap_u z + j))

-- after the secret: p, y, the V order, the V trits, the U order, the U values, of which the last k_U - g_U may not be 0
unfoldable pub choices_refusal_under : PlanesTest → Sizes → DrawCall → ℕ
choices_refusal_under test z i =
    demand (is_order (places z) i.p) 7
    (first (test i.y.ones i.y.twos 1 (codim z))
    (demand (is_order (half z) i.order_v) 7
    (first (test i.v.ones i.v.twos 1 z.kv)
    (demand (is_order (half z) i.order_u) 7
    (first (test i.u.ones i.u.twos 1 z.ku)
    (refuse (last_has_zero z i) 8
    0))))))

abbrev pub choices_refusal : Sizes → DrawCall → ℕ
choices_refusal z i = choices_refusal_under planes_refusal z i

-- ---- the answer: 1, every length, the contents, then 12, 13 and 14
unfoldable pub draw_answer_under : GapsTest → PlanesTest → Sizes → DrawCall → ℕ
draw_answer_under gaps test z i =
    demand (sizes_fit_under gaps z) 1
    (refuse (draw_lengths_differ z i) 2
    (first (secret_refusal_under test z i.secret)
    (first (choices_refusal_under test z i)
    (draw_refusal z (secret_of z i.secret) i.p (syndrome_of i) (choices_of i)))))

abbrev pub draw_answer : Sizes → DrawCall → ℕ
draw_answer z i = draw_answer_under gaps_fit planes_refusal z i

-- ---- each lent buffer at exit

-- the word drawn
unfoldable pub word_of : Sizes → DrawCall → Vector
word_of z i = drawn z (secret_of z i.secret) i.p (syndrome_of i) (choices_of i)

-- its n trits, in public places
unfoldable pub word_exit_under : GapsTest → Sizes → DrawCall → Pair
word_exit_under gaps z i = pair_at_exit (draw_answer_under gaps planes_refusal z i) (row_pair (places z) (word_of z i)) i.word

abbrev pub word_exit : Sizes → DrawCall → Pair
word_exit z i = word_exit_under gaps_fit z i

-- its last k trits
unfoldable pub s_exit_under : GapsTest → Sizes → DrawCall → Pair
s_exit_under gaps z i = pair_at_exit (draw_answer_under gaps planes_refusal z i) (row_pair (dim z) (signature z (word_of z i))) i.s

abbrev pub s_exit : Sizes → DrawCall → Pair
s_exit z i = s_exit_under gaps_fit z i

-- the working space
unfoldable pub draw_work_exit_under : GapsTest → Sizes → DrawCall → Pair
draw_work_exit_under gaps z i = space_pair_exit (draw_answer_under gaps planes_refusal z i) i.work

abbrev pub draw_work_exit : Sizes → DrawCall → Pair
draw_work_exit z i = draw_work_exit_under gaps_fit z i
