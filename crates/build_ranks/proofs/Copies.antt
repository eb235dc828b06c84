-- Copies of orders. Assumes nothing.
use mathlib.Core.Path.{◌≡◌, sym, ap, ◌∙◌}
use mathlib.Core.List.{List}
use Prim.Native.Nat.{ℕ, ◌≤◌}
use native.Mathlib.Nat.{zero-add}
use native.Mathlib.Omega.{arith}
use lib.ListN.{length, get_or}
use lib.Seq.{ext_get_or}
use Rattle.trits.proofs.Patches.{Patched}

pub copy_done : {src d₀ d : List ℕ} {k : ℕ} → Patched (λ j. get_or src j 0) 0 k d₀ d → length src ≡ length d₀ → length d₀ ≤ k → d ≡ src
copy_done {src} {d₀} {d} {k} p e h =
    ext_get_or 0 d src (p.kept ∙ sym e) (λ i l. ap (λ (z : ℕ). get_or d z 0) (sym (zero-add i)) ∙ p.new i (omega (arith, p.kept)))
