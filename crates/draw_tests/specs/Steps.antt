-- What a draw has once its tests have passed ("One draw", "Turned back by the input"). Assumes nothing.
use Rattle.std.specs.Prelude.{◌≡◌, true, List, [], ℕ, ◌+◌, ◌-◌, length}
use Rattle.trits.specs.Planes.{Row, trit_at, words_for}
use Rattle.trits.specs.declared.Planes.{Planes as LentPlanes}
use Rattle.matrix.specs.Orders.{Order}
use Rattle.scheme.specs.declared.sizes.Sizes.{Sizes}
use Rattle.scheme.specs.Sizes.{half, places, codim, gap_u}
use Rattle.scheme.specs.Secret.{no_zero}
use Rattle.scheme.specs.Draw.{draw_refusal}
use Rattle.calls.specs.declared.lent.SecretPlanes.{SecretPlanes}
use Rattle.calls.specs.declared.lent.Choices.{Choices as LentChoices}
use Rattle.calls.specs.Lent.{Planes, planes, secret_of}
use Rattle.calls.specs.DrawCall.{DrawCall, draw_call, draw_lent, syndrome_of, choices_of}
use Rattle.calls.specs.Steps.{Readable}

-- what is read: the secret, p, y and the choices, with nothing to write to
abbrev pub given : Planes → List ℕ → List ℕ → List ℕ → List ℕ → List ℕ → List ℕ → List ℕ → List ℕ → List ℕ → DrawCall
given s p yo yt ov vo vt ou uo ut = draw_call s p yo yt ov vo vt ou uo ut [] [] [] [] [] []

-- p, y and the choices alone
abbrev pub chosen : List ℕ → List ℕ → List ℕ → List ℕ → List ℕ → List ℕ → List ℕ → List ℕ → List ℕ → DrawCall
chosen = given (planes [] [] [] [] [] [] [] [])

-- both from what the code is lent
abbrev pub given_lent : SecretPlanes → List ℕ → LentPlanes → LentChoices → DrawCall
given_lent s p y ch = draw_lent s p y ch [] [] [] [] [] []

abbrev pub chosen_lent : List ℕ → LentPlanes → LentChoices → DrawCall
chosen_lent p y ch =
    chosen p y.ones.now y.twos.now ch.v_order.now ch.v.ones.now ch.v.twos.now ch.u_order.now ch.u.ones.now ch.u.twos.now

-- the end of a draw whose tests have passed: 12, 13, 14 or 0
abbrev pub ending : Sizes → DrawCall → ℕ
ending z i = draw_refusal z (secret_of z i.secret) i.p (syndrome_of i) (choices_of i)

-- p, y and the choices: rows that can be read, and orders
pub record Chosen (z : Sizes) (i : DrawCall) : Type 0 where
  pub p : Order (places z) i.p
  pub y : Row i.y.ones i.y.twos
  pub y_size : length i.y.ones ≡ words_for (codim z)
  pub order_v : Order (half z) i.order_v
  pub v : Row i.v.ones i.v.twos
  pub v_size : length i.v.ones ≡ words_for z.kv
  pub order_u : Order (half z) i.order_u
  pub u : Row i.u.ones i.u.twos
  pub u_size : length i.u.ones ≡ words_for z.ku
  pub values : no_zero (z.ku - gap_u z) (λ j. trit_at i.u.ones i.u.twos (gap_u z + j)) ≡ true

-- and the secret
pub record Ready (z : Sizes) (i : DrawCall) : Type 0 where
  pub secret : Readable z i.secret
  pub choices : Chosen z i

-- the lengths of p, y and the choices are those that the sizes say
pub record ChosenLengths (z : Sizes) (p y1 y2 ov v1 v2 ou u1 u2 : ℕ) : Type 0 where
  pub order : p ≡ places z
  pub y_ones : y1 ≡ words_for (codim z)
  pub y_twos : y2 ≡ words_for (codim z)
  pub order_v : ov ≡ half z
  pub v_ones : v1 ≡ words_for z.kv
  pub v_twos : v2 ≡ words_for z.kv
  pub order_u : ou ≡ half z
  pub u_ones : u1 ≡ words_for z.ku
  pub u_twos : u2 ≡ words_for z.ku

-- those of what the code is lent
abbrev pub LentLengths : Sizes → List ℕ → LentPlanes → LentChoices → Type 0
LentLengths z p y ch =
    ChosenLengths z (length p) (length y.ones.now) (length y.twos.now) (length ch.v_order.now) (length ch.v.ones.now) (length ch.v.twos.now)
    (length ch.u_order.now) (length ch.u.ones.now) (length ch.u.twos.now)
