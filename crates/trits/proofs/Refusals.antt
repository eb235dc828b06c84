-- Refusals: what a chain of tests that ended in 0 has shown, what a buffer is at exit, and which refusals leave the working space. Assumes nothing.
use mathlib.Core.Path.{◌≡◌, refl, sym, ap, ◌∙◌}
use mathlib.Core.Bool.{Bool, true, false, cond}
use mathlib.Core.Logic.{◌≢◌}
use mathlib.Core.List.{List}
use Prim.Native.Nat.{ℕ, ◌≤◌, ◌<◌}
use native.Mathlib.Decide.{ℕ_discrete}
use native.Mathlib.Omega.{arith}
use borrow.Author.Tests.{eq-eqb, ne_eqb}
use lib.Dec.{eqb, lit<}
use lib.ListN.{length, get_or}
use mir.Syntax.{w64}
use mir.Val.{Fits}
use Rattle.trits.specs.Trit.{Trit, t0}
use Rattle.trits.specs.Planes.{trit_at, ones_of, twos_of, both_set, words_for, zero_words, Row}
use Rattle.trits.specs.Rows.{rows_past_end}
use Rattle.trits.specs.Refusal.{number_of, refuse, demand, first, at_exit, space_stays, space_exit, planes_refusal}
use Rattle.trits.specs.declared.refusal.Refusal.{Refusal}
use Rattle.trits.specs.declared.refusal.Refusal.TheVariants.{Size, Length, BothPlanes, PastEnd, PackedByte, StreamEnd, NoPermutation, ZeroTrit, RankU}
use Rattle.trits.specs.declared.refusal.Refusal.TheVariants.{RankV, Line, FirstPartV, FirstPartU, Weight, PackedPastEnd, NoKey, WholeKey}
use Rattle.trits.specs.declared.refusal.Refusal.TheVariants.{OtherKey}
use Rattle.trits.proofs.Reading.{length_ones, length_twos}
use Rattle.trits.proofs.Tests.{both_apart, past_zero, written_both, written_past}
use Rattle.trits.proofs.Matrix.{one_row_past}

-- ---- the number of a refusal is never 0

pub number_positive : (r : Refusal) → 0 < number_of r
number_positive Size = lit< tt
number_positive Length = lit< tt
number_positive BothPlanes = lit< tt
number_positive PastEnd = lit< tt
number_positive PackedByte = lit< tt
number_positive StreamEnd = lit< tt
number_positive NoPermutation = lit< tt
number_positive ZeroTrit = lit< tt
number_positive RankU = lit< tt
number_positive RankV = lit< tt
number_positive Line = lit< tt
number_positive FirstPartV = lit< tt
number_positive FirstPartU = lit< tt
number_positive Weight = lit< tt
number_positive PackedPastEnd = lit< tt
number_positive NoKey = lit< tt
number_positive WholeKey = lit< tt
number_positive OtherKey = lit< tt

-- a number that is not 0 is above it
pub positive : {k : ℕ} → (k ≡ 0 → ⊥) → 0 < k
positive {k} f = let n : k ≢ 0 = f in omega arith

-- ---- one group of tests after another

-- the first group refuses
pub first_stops : {x a : ℕ} (b : ℕ) → x ≡ a → (x ≡ 0 → ⊥) → x ≡ first a b
unfolding first
first_stops {x} {a} b e h = e ∙ sym (ap (λ (t : Bool). cond t b a) (ne_eqb a 0 (λ z. h (e ∙ z))))

-- the first group refuses nothing
pub first_goes : {x y a b : ℕ} → x ≡ a → x ≡ 0 → y ≡ b → y ≡ first a b
unfolding first
first_goes {x} {y} {a} {b} e z f = f ∙ sym (ap (λ (t : Bool). cond t b a) (eq-eqb a 0 (sym e ∙ z)))

-- neither refuses
pub passed_first : (a b : ℕ) → first a b ≡ 0 → (a ≡ 0) × (b ≡ 0)
unfolding first
passed_first a b z = by (ℕ_discrete a 0)
  where
    by : Dec (a ≡ 0) → (a ≡ 0) × (b ≡ 0)
    by (yes q) = (q, sym (ap (λ (t : Bool). cond t b a) (eq-eqb a 0 q)) ∙ z)
    by (no f) = absurd (f (sym (ap (λ (t : Bool). cond t b a) (ne_eqb a 0 f)) ∙ z))

-- ---- a chain of tests that ended in 0

pub passed_refuse : (t : Bool) (k x : ℕ) → 0 < k → refuse t k x ≡ 0 → (t ≡ false) × (x ≡ 0)
passed_refuse true k x h e = absurd (omega arith)
passed_refuse false k x h e = (refl, e)

pub passed_demand : (t : Bool) (k x : ℕ) → 0 < k → demand t k x ≡ 0 → (t ≡ true) × (x ≡ 0)
passed_demand true k x h e = (refl, e)
passed_demand false k x h e = absurd (omega arith)

-- ---- a pair of planes

module _ (ones twos : List ℕ) (rows m : ℕ) where
  -- a bit past the length is 4, whatever else the buffer has
  pub past_told : rows_past_end ones twos rows m ≡ true → planes_refusal ones twos rows m ≡ 4
  unfolding planes_refusal
  past_told e = rw e

  -- with none there, a bit in both planes is 3
  pub both_told : rows_past_end ones twos rows m ≡ false → both_set ones twos ≡ true → planes_refusal ones twos rows m ≡ 3
  unfolding planes_refusal
  both_told e f = rw (e, f)

  pub neither_told : rows_past_end ones twos rows m ≡ false → both_set ones twos ≡ false → planes_refusal ones twos rows m ≡ 0
  unfolding planes_refusal
  neither_told e f = rw (e, f)

  -- there are no other answers
  pub planes_all : (P : ℕ → Type 0) → P 3 → P 4 → P 0 → P (planes_refusal ones twos rows m)
  planes_all P three four none = by (rows_past_end ones twos rows m) refl (both_set ones twos) refl
    where
      by : (past : Bool) → rows_past_end ones twos rows m ≡ past → (both : Bool) → both_set ones twos ≡ both → P (planes_refusal ones twos rows m)
      by true e both f = rw (past_told e) four
      by false e true f = rw (both_told e f) three
      by false e false f = rw (neither_told e f) none

  -- planes that are not refused
  pub planes_passed : planes_refusal ones twos rows m ≡ 0 → (both_set ones twos ≡ false) × (rows_past_end ones twos rows m ≡ false)
  planes_passed z = by (rows_past_end ones twos rows m) refl (both_set ones twos) refl
    where
      by : (past : Bool) → rows_past_end ones twos rows m ≡ past → (both : Bool) → both_set ones twos ≡ both
          → (both_set ones twos ≡ false) × (rows_past_end ones twos rows m ≡ false)
      by true e both f = let k = sym (past_told e) ∙ z in absurd (omega arith)
      by false e true f = let k = sym (both_told e f) ∙ z in absurd (omega arith)
      by false e false f = (f, e)

-- such planes can be read
pub planes_row : {ones twos : List ℕ} (rows m : ℕ) → planes_refusal ones twos rows m ≡ 0 → length twos ≡ length ones
    → ((j : ℕ) → Fits w64 (get_or ones j 0)) → ((j : ℕ) → Fits w64 (get_or twos j 0)) → Row ones twos
planes_row {ones} {twos} rows m e l f g = record { same = l; apart = both_apart f g (planes_passed ones twos rows m e).0 }

-- and one row of them is 0 past its length
pub row_ended : (ones twos : List ℕ) (m : ℕ) → planes_refusal ones twos 1 m ≡ 0 → length ones ≡ words_for m → length twos ≡ words_for m
    → (q : ℕ) → m ≤ q → trit_at ones twos q ≡ t0
row_ended ones twos m e lo lt =
    past_zero ones twos m (lt ∙ sym lo) (sym (one_row_past ones twos m lo lt) ∙ (planes_passed ones twos 1 m e).1)

-- the planes of a vector that is 0 from m on are not refused
pub vector_passes : (v : ℕ → Trit) (m : ℕ) → ((i : ℕ) → m ≤ i → v i ≡ t0)
    → planes_refusal (ones_of v (words_for m)) (twos_of v (words_for m)) 1 m ≡ 0
vector_passes v m z =
    let n = words_for m in
    let ended = one_row_past (ones_of v n) (twos_of v n) m (length_ones v n) (length_twos v n) ∙ written_past v m n z (omega arith) in
    neither_told (ones_of v n) (twos_of v n) 1 m ended (written_both v n)

-- ---- what is true of each refusal in a chain is true of what the chain tells

module _ (P : ℕ → Type 0) where
  pub refuse_all : (t : Bool) (k x : ℕ) → P k → P x → P (refuse t k x)
  refuse_all true k x h g = h
  refuse_all false k x h g = g

  pub demand_all : (t : Bool) (k x : ℕ) → P k → P x → P (demand t k x)
  demand_all true k x h g = g
  demand_all false k x h g = h

  pub first_all : (a b : ℕ) → P a → P b → P (first a b)
  unfolding first
  first_all a b h g = by (eqb a 0)
    where
      by : (t : Bool) → P (cond t b a)
      by true = g
      by false = h

-- ---- the state or a lent buffer at exit

-- a refusal leaves it as it was
pub exit_kept : {A : Type 0} (new old : A) {k r : ℕ} → k ≡ r → 0 < k → old ≡ at_exit r new old
exit_kept new old {k} {r} e h = sym (ap (λ (t : Bool). cond t new old) (ne_eqb r 0 (λ z. omega arith)))

-- where nothing is refused it is the new one
pub exit_new : {A : Type 0} (new old : A) {r : ℕ} → r ≡ 0 → new ≡ at_exit r new old
exit_new new old {r} e = sym (ap (λ (t : Bool). cond t new old) (eq-eqb r 0 e))

-- ---- the working space at exit

-- an end that leaves it, told by k
pub space_kept : (plane : List ℕ) {k r : ℕ} → k ≡ r → space_stays k ≡ true → plane ≡ space_exit r plane
unfolding space_exit
space_kept plane {k} {r} e h = sym (ap (λ (t : Bool). cond t plane (zero_words (length plane))) (ap space_stays (sym e) ∙ h))

-- an end after which it is zero, told by k
pub space_zero : (plane : List ℕ) {k r : ℕ} → k ≡ r → space_stays k ≡ false → zero_words (length plane) ≡ space_exit r plane
unfolding space_exit
space_zero plane {k} {r} e h = sym (ap (λ (t : Bool). cond t plane (zero_words (length plane))) (ap space_stays (sym e) ∙ h))

-- a chain of tests whose every refusal leaves it
pub record Leaves (r : ℕ) : Type 0 where
  pub stays : (r ≡ 0 → ⊥) → space_stays r ≡ true

pub leaves_none : Leaves 0
leaves_none = record { stays = λ f. absurd (f refl) }

pub leaves_refuse : (t : Bool) (k x : ℕ) → space_stays k ≡ true → Leaves x → Leaves (refuse t k x)
leaves_refuse t k x h g = refuse_all Leaves t k x (record { stays = λ f. h }) g

pub leaves_demand : (t : Bool) (k x : ℕ) → space_stays k ≡ true → Leaves x → Leaves (demand t k x)
leaves_demand t k x h g = demand_all Leaves t k x (record { stays = λ f. h }) g

pub leaves_first : (a b : ℕ) → Leaves a → Leaves b → Leaves (first a b)
leaves_first a b h g = first_all Leaves a b h g

pub leaves_planes : (ones twos : List ℕ) (rows m : ℕ) → Leaves (planes_refusal ones twos rows m)
leaves_planes ones twos rows m = planes_all ones twos rows m Leaves (record { stays = λ f. refl }) (record { stays = λ f. refl }) leaves_none

-- the space after a call that a chain refused, told by k
pub left_kept : (plane : List ℕ) {r k : ℕ} → k ≡ r → 0 < k → Leaves r → plane ≡ space_exit r plane
left_kept plane {r} e l h = space_kept plane {k = r} refl (h.stays (λ z. omega arith))

-- a chain of tests after whose every end it is zero
pub record Clears (r : ℕ) : Type 0 where
  pub cleared : space_stays r ≡ false

pub clears_none : Clears 0
clears_none = record { cleared = refl }

pub clears_demand : (t : Bool) (k x : ℕ) → space_stays k ≡ false → Clears x → Clears (demand t k x)
clears_demand t k x h g = demand_all Clears t k x (record { cleared = h }) g

pub left_cleared : (plane : List ℕ) {r : ℕ} → Clears r → zero_words (length plane) ≡ space_exit r plane
left_cleared plane {r} h = space_zero plane {k = r} refl h.cleared
