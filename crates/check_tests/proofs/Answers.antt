-- What a call answers and leaves, from the number of its refusal. Assumes nothing.
use mathlib.Core.Path.{◌≡◌, refl, sym, ap, ap₂, ◌∙◌}
use mathlib.Core.Bool.{true}
use mathlib.Core.List.{List}
use Prim.Native.Nat.{ℕ, ◌<◌}
use native.Mathlib.Omega.{arith}
use borrow.Author.Tests.{eq-eqb, ne_eqb}
use lib.Dec.{eqb}
use lib.ListN.{length}
use Rattle.std.specs.Prelude.{Result, Err}
use Rattle.std.specs.Result.{IsErrAnd}
use Rattle.std.proofs.lemmas.Result.{err_from_is_err_and}
use Rattle.trits.specs.Trit.{sum_of}
use Rattle.trits.specs.Planes.{words_for, zero_words}
use Rattle.trits.specs.declared.Counts.{Counts}
use Rattle.trits.specs.Refusal.{number_of, space_stays, space_exit}
use Rattle.trits.specs.declared.refusal.Refusal.{Refusal}
use Rattle.trits.proofs.Refusals.{number_positive, space_zero, refuse_all, demand_all}
use Rattle.trits.proofs.Refusals.{Leaves, leaves_none, leaves_demand, leaves_first, leaves_planes}
use Rattle.packed.specs.Packed.{bytes_for}
use Rattle.packed.proofs.Turned.{leaves_packed}
use Rattle.held_key.specs.declared.state.Held.{Held}
use Rattle.held_key.specs.Held.{sound, row_trits, row_words, key_words}
use Rattle.check_tests.specs.declared.Checked.{Checked}
use Rattle.check_tests.specs.declared.Verdict.{Verdict}
use Rattle.check_tests.specs.Check.{Check, PackedCheck, call_refusal, call_refusal_under, planes_lengths, planes_contents_under, packed_lengths}
use Rattle.check_tests.specs.Check.{packed_contents_under}
use Rattle.check_tests.specs.Check.{check_refusal, check_refusal_under, check_packed_refusal, check_packed_refusal_under, told, answered}

-- ---- the verdict

pub says_refused : (r : Refusal) (counts : Counts) (w : ℕ)
    → ◌≡◌ {A = Checked} (record { refusal = number_of r; yes = 0; ones = 0; twos = 0 }) (answered (number_of r) counts w)
unfolding answered
says_refused r counts w =
    let l = number_positive r in
    rw (ne_eqb (number_of r) 0 (λ z. omega arith))

pub says_yes_law : (counts : Counts) (w : ℕ) → sum_of counts ≡ w
    → ◌≡◌ {A = Checked} (record { refusal = 0; yes = 1; ones = counts.ones; twos = counts.twos }) (answered 0 counts w)
unfolding answered
says_yes_law counts w e = rw (eq-eqb (sum_of counts) w e)

pub says_no : (counts : Counts) (w : ℕ) → (sum_of counts ≡ w → ⊥)
    → ◌≡◌ {A = Checked} (record { refusal = 0; yes = 0; ones = counts.ones; twos = counts.twos }) (answered 0 counts w)
unfolding answered
says_no counts w e = rw (ne_eqb (sum_of counts) w e)

-- a refusal returns its number alone, whatever the counts would be
pub refused_alike : {r : ℕ} (a b : Counts) (w : ℕ) → 0 < r → answered r a w ≡ answered r b w
unfolding answered
refused_alike {r} a b w l = rw (ne_eqb r 0 (λ z. omega arith))

-- what a `?` hands on where the call that it is on refused with this number
pub told_refused : (answer : Result Verdict Refusal) (refusal : Refusal) {n : ℕ} (counts : Counts) (w : ℕ)
    → IsErrAnd answer (λ y. y ≡ refusal) → number_of refusal ≡ n → told answer ≡ answered n counts w
told_refused answer refusal {n} counts w h e =
    let r = err_from_is_err_and answer h in
    ap told (r.1 ∙ ap (λ (q : Refusal). Err q) r.2) ∙ says_refused refusal counts w ∙ ap (λ (x : ℕ). answered x counts w) e

-- ---- the working space

-- what is true of 0, 1, 2, 20 and 22 is true of what the state, the key number and the lengths of planes make
pub call_all : (P : ℕ → Type 0) → P 0 → P 1 → P 2 → P 20 → P 22 → (h : Held) (number a b d e : ℕ) → P (call_refusal h number a b d e)
unfolding call_refusal_under
call_all P none size length no_key other h number a b d e =
    refuse_all P (eqb h.begun 0) 20 _ no_key
    (demand_all P (sound h) 1 _ size
    (demand_all P (eqb h.rows h.k) 20 _ no_key
    (demand_all P (eqb number h.number) 22 _ other
    (demand_all P (eqb a (key_words h)) 2 _ length
    (demand_all P (eqb b (key_words h)) 2 _ length
    (demand_all P (eqb d (row_words h)) 2 _ length
    (demand_all P (eqb e (row_words h)) 2 0 length
    none)))))))

-- every refusal of a check leaves it
leaves_call : (h : Held) (number a b d e : ℕ) → Leaves (call_refusal h number a b d e)
leaves_call = call_all Leaves leaves_none (leaves refl) (leaves refl) (leaves refl) (leaves refl)
  where
    leaves : {k : ℕ} → space_stays k ≡ true → Leaves k
    leaves h = record { stays = λ f. h }

pub leaves_check : (c : Check) → Leaves (check_refusal c)
unfolding check_refusal_under planes_lengths planes_contents_under
leaves_check c =
    let h = c.held in
    leaves_first _ _ (leaves_call h c.number (length c.ones) (length c.twos) (length c.work_ones) (length c.work_twos))
    (leaves_first _ _
    (leaves_demand (eqb (length c.y_ones) (row_words h)) 2 _ refl
    (leaves_demand (eqb (length c.y_twos) (row_words h)) 2 _ refl
    (leaves_demand (eqb (length c.s_ones) (words_for h.k)) 2 _ refl
    (leaves_demand (eqb (length c.s_twos) (words_for h.k)) 2 0 refl
    leaves_none))))
    (leaves_first _ _ (leaves_planes c.ones c.twos h.k (row_trits h))
    (leaves_first _ _ (leaves_planes c.y_ones c.y_twos 1 (row_trits h)) (leaves_planes c.s_ones c.s_twos 1 h.k))))

pub leaves_packed_check : (c : PackedCheck) → Leaves (check_packed_refusal c)
unfolding check_packed_refusal_under packed_lengths packed_contents_under
leaves_packed_check c =
    let h = c.held in
    leaves_first _ _ (leaves_call h c.number (length c.ones) (length c.twos) (length c.work_ones) (length c.work_twos))
    (leaves_first _ _
    (leaves_demand (eqb (length c.y) (bytes_for (row_trits h))) 2 _ refl
    (leaves_demand (eqb (length c.s) (bytes_for h.k)) 2 0 refl
    leaves_none))
    (leaves_first _ _ (leaves_planes c.ones c.twos h.k (row_trits h))
    (leaves_first _ _ (leaves_packed _ c.y) (leaves_packed _ c.s))))

-- a plane that was zeroed after a check that passed
pub left_zero : (plane : List ℕ) {p : List ℕ} {r n : ℕ} → r ≡ 0 → n ≡ length plane → p ≡ zero_words n → p ≡ space_exit r plane
left_zero plane z l e = e ∙ ap zero_words l ∙ space_zero plane {k = 0} (sym z) refl

-- ---- what a check answers, from a refusal, and from counts

pub answer_kept : {r k : ℕ} (a b : Counts) (w : ℕ) → k ≡ r → 0 < k → answered k a w ≡ answered r b w
answer_kept a b w e l = refused_alike a b w l ∙ ap (λ (x : ℕ). answered x b w) e

pub answer_new : {r k : ℕ} {a b : Counts} (w : ℕ) → k ≡ r → a ≡ b → answered k a w ≡ answered r b w
answer_new w e f = ap₂ (λ (x : ℕ) (y : Counts). answered x y w) e f
