-- One draw ("One draw"; 12, 13 and 14 of "Turned back by the input"). Assumes nothing.
use Rattle.std.specs.Prelude.{Bool, ◌&&◌, cond, List, ℕ, ◌+◌, ◌-◌, eqb, get_or, take, drop}
use Rattle.trits.specs.Trit.{Trit, sub_t, mul_t, is_set, weight_v}
use Rattle.trits.specs.Refusal.{demand}
use Rattle.matrix.specs.Linear.{Vector, zeros, times, solve, or_zeros, pivots, rank, without, fill}
use Rattle.matrix.specs.Orders.{is_order}
use Rattle.scheme.specs.Sizes.{Sizes, half, places, ru, rv, codim, gap_v, gap_u}
use Rattle.scheme.specs.Secret.{Secret, no_zero, join, u_of, v_of, whole}

-- what is supplied: a V order, V trits, a U order, U values
pub record Choices : Type 0 where
  pub order_v : List ℕ
  pub trits_v : Vector
  pub order_u : List ℕ
  pub values_u : Vector

-- what is supplied in order: two orders of N places, and no 0 among the last k_U - g_U U values
unfoldable pub choices_fit : Sizes → Choices → Bool
choices_fit z ch = is_order (half z) ch.order_v && (is_order (half z) ch.order_u && no_zero (z.ku - gap_u z) (λ j. ch.values_u (gap_u z + j)))

-- a word of public places in secret places: public place i is secret place p(i)
abbrev pub placed : List ℕ → Vector → Vector
placed p e = fill p e zeros

-- V: the first part is the first r_V + g_V places of the order
abbrev pub first_v : Sizes → Choices → List ℕ
first_v z ch = take (rv z + gap_v z) ch.order_v

-- the pivots are the first independent ones in it
unfoldable pub pivots_v : Sizes → Secret → Choices → List ℕ
pivots_v z s ch = pivots (rv z) (half z) s.hv (first_v z ch)

-- the other k_V places take the supplied trits in draw order
unfoldable pub supplied_v : Sizes → Secret → Choices → Vector
supplied_v z s ch = fill (without (pivots_v z s ch) ch.order_v) ch.trits_v zeros

-- e_V: the pivots take the values for which H_V e_V is H_V x
unfoldable pub draw_v : Sizes → Secret → Vector → Choices → Vector
draw_v z s x ch = or_zeros (solve (rv z) (half z) s.hv (times (half z) s.hv x) (pivots_v z s ch) (supplied_v z s ch))

-- U: the first part likewise, with r_U + g_U places
abbrev pub first_u : Sizes → Choices → List ℕ
first_u z ch = take (ru z + gap_u z) ch.order_u

-- and its pivots
unfoldable pub pivots_u : Sizes → Secret → Choices → List ℕ
pivots_u z s ch = pivots (ru z) (half z) s.hu (first_u z ch)

-- the last k_U - g_U places
abbrev pub last_u : Sizes → Choices → List ℕ
last_u z ch = drop (ru z + gap_u z) ch.order_u

-- at a place of the last part, with b and c of the secret: (c-b)·e_V where e_V is not 0, else the supplied value x
abbrev pub forced_by : Vector → Vector → Vector → ℕ → Trit → Trit
forced_by b c e_v q x = cond (is_set (e_v q)) (mul_t (sub_t (c q) (b q)) (e_v q)) x

abbrev pub forced : Secret → Vector → ℕ → Trit → Trit
forced s = forced_by s.b s.c

-- the g_U places of the first part that are no pivot take the first g_U values, the last part the others, each in draw order
unfoldable pub supplied_u : Sizes → Secret → Vector → Choices → Vector
supplied_u z s e_v ch =
    fill (last_u z ch) (λ j. forced s e_v (get_or (last_u z ch) j 0) (ch.values_u (gap_u z + j)))
    (fill (without (pivots_u z s ch) (first_u z ch)) ch.values_u zeros)

-- e_U: the pivots take the values for which H_U e_U is H_U x
unfoldable pub draw_u : Sizes → Secret → Vector → Vector → Choices → Vector
draw_u z s x e_v ch = or_zeros (solve (ru z) (half z) s.hu (times (half z) s.hu x) (pivots_u z s ch) (supplied_u z s e_v ch))

-- the whole word from y, x being (y, 0...0) in secret places; public place i has the trit of secret place p(i)
unfoldable pub drawn : Sizes → Secret → List ℕ → Vector → Choices → Vector
drawn z s p y ch i =
    let x = placed p (join (codim z) y zeros) in
    let e_v = draw_v z s (v_of z s x) ch in
    whole z s (draw_u z s (u_of z s x) e_v ch) e_v (get_or p i 0)

-- refused 12 where the first part lacks rank in V, 13 where it does in U; else what follows decides
abbrev pub ranks_refusal : Sizes → Secret → Choices → ℕ → ℕ
ranks_refusal z s ch rest =
    demand (eqb (rank (rv z) (half z) s.hv (first_v z ch)) (rv z)) 12
    (demand (eqb (rank (ru z) (half z) s.hu (first_u z ch)) (ru z)) 13
    rest)

-- then 14 where the weight is not w; 0 where the word is released
unfoldable pub draw_refusal : Sizes → Secret → List ℕ → Vector → Choices → ℕ
draw_refusal z s p y ch = ranks_refusal z s ch (demand (eqb (weight_v (drawn z s p y ch) (places z)) z.w) 14 0)

-- the signature: the last k trits of the word
abbrev pub signature : Sizes → Vector → Vector
signature z e i = e (codim z + i)
