-- What a `?` hands on where a call that it is on refused: the number of that refusal, which is never 0; the host's state stays. Assumes nothing.
use mathlib.Core.Path.{◌≡◌, refl, ap, ◌∙◌}
use Prim.Native.Nat.{ℕ, ◌<◌}
use native.Mathlib.Omega.{arith}
use Rattle.std.specs.Prelude.{Result, Ok, Err}
use Rattle.std.specs.Result.{IsErr, IsErrAnd}
use Rattle.std.proofs.lemmas.Result.{err_from_is_err_and}
use Rattle.trits.specs.Refusal.{number_of}
use Rattle.trits.specs.declared.refusal.Refusal.{Refusal}
use Rattle.trits.proofs.Refusals.{number_positive}
use Rattle.held_key.specs.declared.state.Held.{Held}
use Rattle.held_key.specs.Store.{refusal_of, held_after}

-- the number that is handed on is the refusal's
pub handed_on : {A : Type 0} (outcome : Result A Refusal) (refusal : Refusal) {n : ℕ}
    → IsErrAnd outcome (λ y. y ≡ refusal) → number_of refusal ≡ n → refusal_of outcome ≡ n
handed_on outcome refusal {n} h e =
    let r = err_from_is_err_and outcome h in
    ap refusal_of (r.1 ∙ ap (λ (q : Refusal). Err q) r.2) ∙ e

-- it is above 0
pub refused_positive : {A : Type 0} (outcome : Result A Refusal) → IsErr outcome → 0 < refusal_of outcome
refused_positive (Ok a) h = cc
refused_positive (Err q) h = number_positive q

pub refused : {A : Type 0} (outcome : Result A Refusal) → IsErr outcome → refusal_of outcome ≡ 0 → ⊥
refused outcome h z = let l = refused_positive outcome h in omega arith

-- and the state is the host's
pub state_stays : (h : Held) (outcome : Result Held Refusal) → IsErr outcome → held_after h outcome ≡ h
state_stays h (Ok new) e = cc
state_stays h (Err q) e = refl
