-- The contents of p, y and the choices: past the tests that passed, those that are left decide. Assumes nothing.
use mathlib.Core.Path.{◌≡◌, refl, sym, ap, ◌∙◌}
use mathlib.Core.Bool.{Bool, true, false}
use mathlib.Core.List.{List}
use Prim.Native.Nat.{ℕ, ◌+◌}
use lib.ListN.{length}
use Rattle.trits.specs.Refusal.{refuse, demand, first, planes_refusal}
use Rattle.trits.proofs.Refusals.{first_goes}
use Rattle.matrix.specs.Orders.{is_order}
use Rattle.scheme.specs.declared.sizes.Sizes.{Sizes}
use Rattle.scheme.specs.declared.sizes.Shape.{Shape}
use Rattle.scheme.specs.Sizes.{half, places, codim, shape_of}
use Rattle.calls.specs.DrawCall.{DrawCall, last_has_zero, choices_refusal, choices_refusal_under}

-- a demand that is met leaves the others to decide, and one that fails decides
met : {t : Bool} (r : ℕ) → t ≡ true → r ≡ demand t 7 r
met r e = sym (ap (λ (t : Bool). demand t 7 r) e)

pub failed : {t : Bool} (r : ℕ) → t ≡ false → 7 ≡ demand t 7 r
failed r e = sym (ap (λ (t : Bool). demand t 7 r) e)

-- what the test of an order of the right length told
pub order_told : (m : ℕ) (l : List ℕ) {t u : Bool} → length l ≡ m → t ≡ is_order (length l) l → t ≡ u → is_order m l ≡ u
order_told m l h e f = ap (λ (n : ℕ). is_order n l) (sym h) ∙ sym e ∙ f

module _ (z : Sizes) (i : DrawCall) where
  -- what the test of y told, from the shape of the sizes
  pub y_told : {s : Shape} {x : ℕ} → s ≡ shape_of z → x ≡ planes_refusal i.y.ones i.y.twos 1 (s.ru + s.rv)
      → x ≡ planes_refusal i.y.ones i.y.twos 1 (codim z)
  y_told e f = f ∙ ap (λ (s : Shape). planes_refusal i.y.ones i.y.twos 1 (s.ru + s.rv)) e

  abbrev pub from_zeros : ℕ
  from_zeros = refuse (last_has_zero z i) 8 0

  abbrev pub from_u : ℕ
  from_u = first (planes_refusal i.u.ones i.u.twos 1 z.ku) from_zeros

  abbrev pub from_u_order : ℕ
  from_u_order = demand (is_order (half z) i.order_u) 7 from_u

  abbrev pub from_v : ℕ
  from_v = first (planes_refusal i.v.ones i.v.twos 1 z.kv) from_u_order

  abbrev pub from_v_order : ℕ
  from_v_order = demand (is_order (half z) i.order_v) 7 from_v

  abbrev pub from_y : ℕ
  from_y = first (planes_refusal i.y.ones i.y.twos 1 (codim z)) from_v_order

  pub from_p : demand (is_order (places z) i.p) 7 from_y ≡ choices_refusal z i
  unfolding choices_refusal_under
  from_p = refl

  module _ (p : is_order (places z) i.p ≡ true) where
    pub past_p : from_y ≡ choices_refusal z i
    past_p = met from_y p ∙ from_p

    module _ (y : 0 ≡ planes_refusal i.y.ones i.y.twos 1 (codim z)) where
      pub past_y : from_v_order ≡ choices_refusal z i
      past_y = first_goes y refl refl ∙ past_p

      module _ (v_order : is_order (half z) i.order_v ≡ true) where
        pub past_v_order : from_v ≡ choices_refusal z i
        past_v_order = met from_v v_order ∙ past_y

        module _ (v : 0 ≡ planes_refusal i.v.ones i.v.twos 1 z.kv) where
          pub past_v : from_u_order ≡ choices_refusal z i
          past_v = first_goes v refl refl ∙ past_v_order

          module _ (u_order : is_order (half z) i.order_u ≡ true) where
            pub past_u_order : from_u ≡ choices_refusal z i
            past_u_order = met from_u u_order ∙ past_v

            pub past_u : 0 ≡ planes_refusal i.u.ones i.u.twos 1 z.ku → from_zeros ≡ choices_refusal z i
            past_u u = first_goes u refl refl ∙ past_u_order
