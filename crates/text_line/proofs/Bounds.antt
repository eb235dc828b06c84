-- A line prints alike and leaves alike under two bounds, if neither its key number nor the held one is above them (request C-15). Assumes nothing.
use mathlib.Core.Path.{◌≡◌, refl, ap}
use mathlib.Core.Bool.{Bool, true, false, cond}
use mathlib.Core.List.{List}
use Prim.Native.Nat.{ℕ, ◌≤◌}
use lib.Dec.{eqb}
use Rattle.trits.specs.Refusal.{at_exit, planes_refusal}
use Rattle.text.specs.Forms.{Line, no_form, key_line, row_line, sign_line}
use Rattle.text.specs.AsBefore.{key_number_of}
use Rattle.held_key.specs.declared.state.Held.{Held}
use Rattle.held_key.specs.Load.{Holding}
use Rattle.held_key.specs.Store.{begun_held, next_held, stored_held, store_refusal_under}
use Rattle.held_key.proofs.Bounds.{begin_either, store_either}
use Rattle.check_tests.proofs.Bounds.{check_either}
use Rattle.text_line.specs.Answer.{key_refusal_under, key_held_under, row_store, digits_refusal_under, row_kept_under, sign_check, sign_answer_under}
use Rattle.text_line.specs.Answer.{refusal_prints, sign_prints, line_prints_under, line_kept_under}

module _ (a b : ℕ) (kept : Holding) (ka : kept.held.number ≤ a) (kb : kept.held.number ≤ b) where
  module _ (number n k w : ℕ) (la : number ≤ a) (lb : number ≤ b) where
    key_line_either : key_refusal_under a number n k w ≡ key_refusal_under b number n k w
    unfolding key_refusal_under
    key_line_either = rw (begin_either a b number la lb n k w)

    held_either : key_held_under a kept.held number n k w ≡ key_held_under b kept.held number n k w
    unfolding key_held_under
    held_either = rw key_line_either

  digits_either : (digits : List ℕ) → digits_refusal_under a kept digits ≡ digits_refusal_under b kept digits
  unfolding digits_refusal_under
  digits_either digits = store_either a b planes_refusal (row_store kept digits) ka kb

  kept_row_either : (digits : List ℕ) → row_kept_under a kept digits ≡ row_kept_under b kept digits
  unfolding row_kept_under
  kept_row_either digits = rw (store_either a b planes_refusal (row_store kept digits) ka kb)

  sign_either : (number : ℕ) (y s : List ℕ) → sign_answer_under a kept number y s ≡ sign_answer_under b kept number y s
  unfolding sign_answer_under
  sign_either number y s = check_either a b planes_refusal (sign_check kept number y s) ka kb

  -- what a line prints, and what it leaves
  pub prints_either : (l : Line) → key_number_of l ≤ a → key_number_of l ≤ b → line_prints_under a kept l ≡ line_prints_under b kept l
  unfolding line_prints_under key_number_of
  prints_either no_form la lb = refl
  prints_either (key_line number n k w) la lb = ap refusal_prints (key_line_either number n k w la lb)
  prints_either (row_line digits) la lb = ap refusal_prints (digits_either digits)
  prints_either (sign_line number formula y s) la lb = ap (sign_prints number formula) (sign_either number y s)

  pub kept_either : (l : Line) → key_number_of l ≤ a → key_number_of l ≤ b → line_kept_under a kept l ≡ line_kept_under b kept l
  unfolding line_kept_under key_number_of
  kept_either no_form la lb = refl
  kept_either (key_line number n k w) la lb = λ i. record { held = held_either number n k w la lb i; ones = kept.ones; twos = kept.twos }
  kept_either (row_line digits) la lb = kept_row_either digits
  kept_either (sign_line number formula y s) la lb = refl

-- the held key number is that of a P line or was held before, so it does not come to be above a bound that neither is above
module _ (most : ℕ) (kept : Holding) (z : kept.held.number ≤ most) where
  exit_number : (refusal : ℕ) (h : Held) → h.number ≤ most → (at_exit refusal h kept.held).number ≤ most
  exit_number refusal h y = by (eqb refusal 0)
    where
      by : (t : Bool) → (cond t h kept.held).number ≤ most
      by true = y
      by false = z

  pub number_kept : (l : Line) → key_number_of l ≤ most → (line_kept_under most kept l).held.number ≤ most
  unfolding line_kept_under key_number_of key_held_under row_kept_under stored_held next_held begun_held
  number_kept no_form y = z
  number_kept (key_line number n k w) y = exit_number (key_refusal_under most number n k w) (begun_held number n k w) y
  number_kept (row_line digits) y = exit_number (store_refusal_under most planes_refusal (row_store kept digits)) (next_held kept.held) z
  number_kept (sign_line number formula y' s) y = z
