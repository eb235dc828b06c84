-- What a build that is not refused has passed, and how it ends. Assumes nothing.
use mathlib.Core.Path.{◌≡◌}
use mathlib.Core.Bool.{true, and-eq-true_iff}
use mathlib.Core.List.{List}
use Prim.Native.Nat.{ℕ, ◌<◌}
use native.Mathlib.Omega.{arith}
use borrow.Author.Tests.{eqb-true}
use lib.Dec.{eqb}
use Rattle.trits.specs.Trit.{is_set}
use Rattle.trits.proofs.Refusals.{passed_demand}
use Rattle.matrix.specs.Linear.{rank, range}
use Rattle.matrix.specs.Orders.{Order}
use Rattle.matrix.proofs.Orders.{order_test}
use Rattle.matrix.proofs.Rank.{full_reaches}
use Rattle.scheme.specs.declared.sizes.Sizes.{Sizes}
use Rattle.scheme.specs.Sizes.{half, places, ru, rv, codim, sizes_fit}
use Rattle.scheme.specs.Secret.{Secret, no_zero, secret_matrix}
use Rattle.scheme.specs.Build.{arranged, build_fits, build_refusal}
use Rattle.scheme.proofs.Ranges.{Ranges, sizes_fit_law}
use Rattle.scheme_laws.proofs.Pairs.{no_zero_law, secret_reaches}
use Rattle.scheme_laws.proofs.Build.{Arranged, arranged_good}

-- what a build that is not refused has tested
pub record Builds (z : Sizes) (s : Secret) (start : List ℕ) : Type 0 where
  pub ranges : Ranges z
  pub unit : (i : ℕ) → i < half z → is_set (s.c i) ≡ true
  pub order : Order (places z) start
  pub full_u_here : rank (ru z) (half z) s.hu (range (half z)) ≡ ru z
  pub full_v_here : rank (rv z) (half z) s.hv (range (half z)) ≡ rv z

pub build_passed : (z : Sizes) (s : Secret) (start : List ℕ) → build_fits z s start ≡ true → build_refusal z s ≡ 0 → Builds z s start
unfolding build_fits build_refusal
build_passed z s start h e =
    let a = (and-eq-true_iff (sizes_fit z) _).0 h in
    let b = (and-eq-true_iff (no_zero (half z) s.c) _).0 a.1 in
    let c = passed_demand (eqb (rank (ru z) (half z) s.hu (range (half z))) (ru z)) 9 _ (omega arith) e in
    let d = passed_demand (eqb (rank (rv z) (half z) s.hv (range (half z))) (rv z)) 10 _ (omega arith) c.1 in
    record {
      ranges = sizes_fit_law z a.0;
      unit = no_zero_law (half z) s.c b.0;
      order = order_test (places z) start b.1;
      full_u_here = eqb-true (rank (ru z) (half z) s.hu (range (half z))) (ru z) c.0;
      full_v_here = eqb-true (rank (rv z) (half z) s.hv (range (half z))) (rv z) d.0;
    }

-- once both ranks are full, the build ends with n-k columns kept
pub build_ends : (z : Sizes) (s : Secret) (start : List ℕ) → Builds z s start
    → Arranged (codim z) (places z) (secret_matrix z s) (arranged (codim z) (places z) (secret_matrix z s) start)
build_ends z s start b =
    arranged_good (codim z) (places z) (secret_matrix z s) start
    (secret_reaches z s ((full_reaches (ru z) (half z) s.hu).0 b.full_u_here) ((full_reaches (rv z) (half z) s.hv).0 b.full_v_here)) b.order
