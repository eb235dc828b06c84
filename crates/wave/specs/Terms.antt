-- Demand 3 in its terms, which the paper defines itself ("The words of demand 3"): over the
-- answers of the calls and the words that they are lent. Assumes nothing.
use Rattle.std.specs.Prelude.{◌≡◌, true, List, ℕ, ◌+◌, ◌-◌, ◌^◌, ◌<◌, length, get_or}
use Rattle.trits.specs.Trit.{is_set, weight_v}
use Rattle.trits.specs.Planes.{trit_at, words_for}
use Rattle.trits.specs.Rows.{row_part}
use Rattle.trits.specs.Refusal.{planes_refusal}
use Rattle.matrix.specs.Linear.{Vector, elem, without, range, rank}
use Rattle.matrix.specs.Orders.{Distinct}
use Rattle.verdict.specs.Verdict.{Key, HasSyndrome}
use Rattle.scheme.specs.declared.sizes.Sizes.{Sizes}
use Rattle.scheme.specs.Sizes.{half, places, dim, ru, codim, sized}
use Rattle.scheme.specs.Secret.{Secret}
use Rattle.scheme.specs.Draw.{placed}
use Rattle.calls.specs.Lent.{secret_of}
use Rattle.calls.specs.BuildCall.{BuildCall, key_row_words, build_answer, order_exit, key_exit}
use Rattle.calls.specs.DrawCall.{DrawCall, draw_answer, word_exit}

-- ---- the terms

-- so many of the N secret pairs, no two alike
pub record PairSet (N count : ℕ) : Type 0 where
  pub pairs : List ℕ
  pub distinct : Distinct pairs
  pub size : length pairs ≡ count
  pub below : (q : ℕ) → elem q pairs ≡ true → q < N

-- the five terms, at a gap g_U and a weight w: weight w; the syndrome y; k_U - g_U distinct secret pairs; both trits of each not 0; H_U keeps rank
-- r_U on the other pairs. g_V stands in none of them
-- (the word e is in public places, and `placed p e` is the same word in secret places: public
-- trit i stands at secret place p(i), pair j is secret places j and N + j)
pub record Terms (z : Sizes) (gu w : ℕ) (s : Secret) (p : List ℕ) (R : Key) (y e : Vector) : Type 0 where
  pub weighs : weight_v e (places z) ≡ w
  pub has_syndrome : HasSyndrome (codim z) (dim z) R e y
  pub chosen : PairSet (half z) (z.ku - gu)
  pub both_nonzero : (q : ℕ) → elem q chosen.pairs ≡ true → (is_set (placed p e q) ≡ true) × (is_set (placed p e (half z + q)) ≡ true)
  pub keeps_rank : rank (ru z) (half z) s.hu (without chosen.pairs (range (half z))) ≡ ru z

-- ---- a key that our builder released

-- a call of the builder that was not refused; its p is the order lent back, `order_exit`
abbrev pub Built : Sizes → BuildCall → Type 0
Built z i = build_answer z i ≡ 0

-- and its R the key's words lent back: row j is that stretch of them
unfoldable pub built_key : Sizes → BuildCall → Key
built_key z i j = trit_at (row_part (key_exit z i).ones (dim z) (key_row_words z) j) (row_part (key_exit z i).twos (dim z) (key_row_words z) j)

-- ---- a draw under it, at the sizes `sized z gv gu w`: g_V, g_U and w may be others than the build's

-- y as it is lent: n-k trits in two planes
pub record LentSyndrome (z : Sizes) (ones twos : List ℕ) : Type 0 where
  pub ones_size : length ones ≡ words_for (codim z)
  pub twos_size : length twos ≡ words_for (codim z)
  pub contents : planes_refusal ones twos 1 (codim z) ≡ 0

-- numbers of b bits, as a slice has them
abbrev pub Bits : ℕ → List ℕ → Type 0
Bits b l = (j : ℕ) → get_or l j 0 < 2 ^ b

-- y of n-k trits as planes of 64-bit words that can be lent, and from which it is read back
pub record LentAs (z : Sizes) (y : Vector) : Type 0 where
  pub ones : List ℕ
  pub twos : List ℕ
  pub ones_words : Bits 64 ones
  pub twos_words : Bits 64 twos
  pub passes : LentSyndrome z ones twos
  pub back : (j : ℕ) → j < codim z → trit_at ones twos j ≡ y j

-- a call of the signer with that build's secret and p
pub record Under (z : Sizes) (i : BuildCall) (l : DrawCall) : Type 0 where
  pub secret_is : l.secret ≡ i.secret
  pub order_is : l.p ≡ order_exit z i

-- it releases the word e: it ends without a refusal and hands out that word, in its n places
pub record HandsOut (z : Sizes) (l : DrawCall) (e : Vector) : Type 0 where
  pub passed : draw_answer z l ≡ 0
  pub word : (q : ℕ) → q < places z → trit_at (word_exit z l).ones (word_exit z l).twos q ≡ e q

-- what is supplied to a draw can be lent: orders of 16-bit numbers, planes of 64-bit words
pub record Lendable (l : DrawCall) : Type 0 where
  pub order_v_here : Bits 16 l.order_v
  pub v_ones : Bits 64 l.v.ones
  pub v_twos : Bits 64 l.v.twos
  pub order_u_here : Bits 16 l.order_u
  pub u_ones : Bits 64 l.u.ones
  pub u_twos : Bits 64 l.u.twos
  pub word_ones : Bits 64 l.word.ones
  pub word_twos : Bits 64 l.word.twos
  pub s_ones : Bits 64 l.s.ones
  pub s_twos : Bits 64 l.s.twos
  pub work_ones : Bits 64 l.work.ones
  pub work_twos : Bits 64 l.work.twos

-- some draw under the key releases e for y, with any V order, V trits, U order and U values
pub record SomeDraw (z : Sizes) (i : BuildCall) (gv gu w : ℕ) (ones twos : List ℕ) (e : Vector) : Type 0 where
  pub call : DrawCall
  pub lendable : Lendable call
  pub under : Under z i call
  pub y_ones : call.y.ones ≡ ones
  pub y_twos : call.y.twos ≡ twos
  pub releases : HandsOut (sized z gv gu w) call e

-- the terms of the word e for y under that key, at that g_U and w
abbrev pub KeyTerms : Sizes → BuildCall → ℕ → ℕ → List ℕ → List ℕ → Vector → Type 0
KeyTerms z i gu w y_ones y_twos e = Terms z gu w (secret_of z i.secret) (order_exit z i) (built_key z i) (trit_at y_ones y_twos) e
