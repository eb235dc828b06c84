-- The bits that both planes have are gathered word by word; one is set where some place has both (`both_turn`).
-- Assumes nothing.
use Prim.Native.Nat.{ℕ, ◌≤◌, ◌<◌}
use mathlib.Core.Path.{refl, sym, subst, ◌∙◌}
use mathlib.Core.List.{List}
use native.Mathlib.Decide.{dec_lt}
use native.Mathlib.Omega.{arith}
use lib.ListN.{length, get_or, get_or-eq_default}
use mir.Syntax.{w64}
use mir.Val.{Fits}
use Rattle.std.proofs.Common.{Fits-lit}
use Rattle.trits.specs.Trit.{any_to}
use Rattle.trits.proofs.Tests.{both_turn, both_all, both_apart}
use Rattle.planes.proofs.faults.both_set.Goals as goal

-- words that were read fit, and past them there is 0
all_fit : (l : List ℕ) (i : ℕ) → length l ≤ i → ((j : ℕ) → j < i → Fits w64 (get_or l j 0)) → (j : ℕ) → Fits w64 (get_or l j 0)
all_fit l i e h j = by (dec_lt j i)
  where
    by : Dec (j < i) → Fits w64 (get_or l j 0)
    by (yes k) = h j k
    by (no f) = let P : ℕ → Type 0 = λ n. Fits w64 n in subst P (sym (get_or-eq_default l 0 (omega arith))) (Fits-lit tt)

pub loop-i-init : goal.loop-i-init
unfolding any_to
loop-i-init c = (omega arith, refl, λ j h. absurd (omega arith), λ j h. absurd (omega arith))

pub loop-i-preserved : goal.loop-i-preserved
loop-i-preserved c =
    let l = c.loop-i in
    let i = l.i in
    let ones = c.type_inv.ones in
    let twos = c.type_inv.twos in
    (omega arith, both_turn _ _ i l.both (ones i) (twos i) l.invariant.1, λ j h. ones j, λ j h. twos j)

pub returns : goal.returns
returns c =
    let l = c.loop-i in
    let p = l.invariant in
    let found = both_all _ _ l.both l.i (omega arith) p.1 in
    record { found = found; apart = λ e. both_apart (all_fit _ l.i (omega arith) p.2) (all_fit _ l.i (omega arith) p.3) (sym found ∙ e) }
