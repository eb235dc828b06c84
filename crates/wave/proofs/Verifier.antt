-- Under a key that a build released: what a draw releases is accepted; and a build ends. Assumes nothing.
use mathlib.Core.Path.{◌≡◌, refl, ap, ◌∙◌}
use mathlib.Core.Bool.{true}
use mathlib.Core.List.{List}
use Prim.Native.Nat.{ℕ}
use lib.ListN.{take}
use Rattle.trits.specs.Trit.{counts_v, sum_of}
use Rattle.trits.proofs.Counting.{counts_weight}
use Rattle.matrix.specs.Linear.{Vector}
use Rattle.matrix.specs.Orders.{Order}
use Rattle.matrix.proofs.Greedy.{Kept}
use Rattle.verdict.specs.Verdict.{Key, full_counts, says_yes}
use Rattle.verdict.proofs.FullWord.{counts_of, yes_sum}
use Rattle.scheme.specs.declared.sizes.Sizes.{Sizes}
use Rattle.scheme.specs.Sizes.{places, dim, codim, sizes_fit, sized}
use Rattle.scheme.specs.Secret.{Secret, secret_matrix}
use Rattle.scheme.specs.Build.{arranged}
use Rattle.scheme.specs.Draw.{signature}
use Rattle.scheme.proofs.Ranges.{codim_dim}
use Rattle.scheme_laws.proofs.Ended.{build_passed, build_ends}
use Rattle.wave.specs.Vectors.{Released, Releases}
use Rattle.wave.proofs.Reach.{reach}

module _ (z : Sizes) (s : Secret) (start p : List ℕ) (R : Key) (re : Released z s start p R) where
  -- the signature of a word that a draw releases is accepted, with the ones and twos of that word
  pub released_accepted : (gv gu w : ℕ) → sizes_fit (sized z gv gu w) ≡ true → (y e : Vector) → Releases (sized z gv gu w) s p y e
      → (full_counts (codim z) (dim z) R y (signature z e) ≡ counts_v e (places z)) × (says_yes (codim z) (dim z) w R y (signature z e) ≡ true)
  released_accepted gv gu w h y e r =
      let t = (reach z s start p R re gv gu w h y e).0 r in
      let c : full_counts (codim z) (dim z) R y (signature z e) ≡ counts_v e (places z) =
      counts_of (codim z) (dim z) R y (signature z e) e t.has_syndrome (λ i l. refl)
      ∙ ap (counts_v e) (codim_dim z (build_passed z s start re.given re.passed).ranges) in
      (c, (yes_sum (codim z) (dim z) R y (signature z e) w).1 (ap sum_of c ∙ counts_weight e (places z) ∙ t.weighs))

  -- the build ended with n-k columns kept: p is an order of the n places, and the columns at its first n-k places are independent
  pub build_ended : ((arranged (codim z) (places z) (secret_matrix z s) start).kept ≡ codim z) × Order (places z) p
      × Kept (codim z) (places z) (secret_matrix z s) (take (codim z) p)
  build_ended =
      let a = build_ends z s start (build_passed z s start re.given re.passed) in
      (a.count, (rw re.order a.order), rw re.order a.kept)
