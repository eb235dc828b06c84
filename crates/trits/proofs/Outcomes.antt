-- What a `?` hands on where a call that it is on refused: the number of that refusal, which is never 0. Assumes nothing.
use mathlib.Core.Path.{◌≡◌, ap, ◌∙◌}
use Prim.Native.Nat.{ℕ, ◌<◌}
use Rattle.std.specs.Prelude.{Result, Ok, Err}
use Rattle.std.specs.Result.{IsErr, IsErrAnd}
use Rattle.std.proofs.lemmas.Result.{err_from_is_err_and}
use Rattle.trits.specs.Refusal.{number_of, code_of}
use Rattle.trits.specs.declared.refusal.Refusal.{Refusal}
use Rattle.trits.proofs.Refusals.{number_positive}

-- the number that is handed on is the refusal's
pub handed_on : (outcome : Result Unit Refusal) (refusal : Refusal) {n : ℕ}
    → IsErrAnd outcome (λ y. y ≡ refusal) → number_of refusal ≡ n → code_of outcome ≡ n
handed_on outcome refusal {n} h e =
    let r = err_from_is_err_and outcome h in
    ap code_of (r.1 ∙ ap (λ (q : Refusal). Err q) r.2) ∙ e

-- and it is above 0
pub refused_positive : (outcome : Result Unit Refusal) → IsErr outcome → 0 < code_of outcome
refused_positive (Ok u) h = cc
refused_positive (Err q) h = number_positive q
