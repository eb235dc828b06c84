-- The contents of the secret, then the starting order.
-- Assumes nothing.
use mathlib.Core.Path.{◌≡◌, refl, sym, ap, ◌∙◌}
use mathlib.Core.Bool.{Bool}
use mathlib.Core.List.{List}
use Prim.Native.Nat.{ℕ}
use native.Mathlib.Omega.{arith}
use lib.ListN.{length}
use Rattle.std.proofs.lemmas.Result.{IfOk-from_err}
use Rattle.trits.proofs.Outcomes.{handed_on, refused_positive}
use Rattle.trits.proofs.Refusals.{first_stops, first_goes}
use Rattle.matrix.specs.Orders.{is_order}
use Rattle.calls.proofs.Bounds.{bounds}
use Rattle.build.proofs.tests.test_contents.Goals as goal

-- what the test of the order told
told : (start : List ℕ) {n : ℕ} {t u : Bool} → length start ≡ n → t ≡ is_order (length start) start → t ≡ u → is_order n start ≡ u
told start e f g = ap (λ (n : ℕ). is_order n start) (sym e) ∙ sym f ∙ g

pub returns-in_err-test_secret : goal.returns-in_err-test_secret
returns-in_err-test_secret c =
    let r = c.from_residual in record {
      refusal = first_stops _ (handed_on _ _ r.ensures.1 c.in_err-test_secret.ensures.refusal)
          (λ q. omega (arith, q, refused_positive _ r.ensures.0));
      readable = IfOk-from_err r.result _ r.ensures.0;
    }

pub is_order-requires : goal.is_order-requires
is_order-requires c =
    omega (arith, (bounds c.args.z.sizes c.args.z.fit).high, c.requires.start_size)

pub returns-then-not-is_order : goal.returns-then-not-is_order
returns-then-not-is_order c = record {
  refusal = first_goes c.in_ok-test_secret.ensures.refusal refl (rw (told c.args.start.now c.requires.start_size c.is_order.ensures c.if-not-is_order.true));
  readable = tt;
}

pub returns : goal.returns
returns c = record {
  refusal = first_goes c.in_ok-test_secret.ensures.refusal refl (rw (told c.args.start.now c.requires.start_size c.is_order.ensures c.if-not-is_order.false));
  readable = c.in_ok-test_secret.ensures.readable;
}
