-- The six stages together turn a block. Assumes nothing.
use mathlib.Core.Path.{◌≡◌, refl, ap₂, ◌∙◌}
use mathlib.Core.List.{List}
use Prim.Native.Nat.{ℕ, ◌<◌}
use lib.Dec.{T, eqb}
use lib.ListN.{length, get_or}
use Rattle.trits.specs.Planes.{bit}
use Rattle.turning.specs.Steps.{by32, by16, by8, by4, by2, by1, Exchanged, Turned, crossed}
use Rattle.turning.proofs.Tests.{below, equal_at_two}
use Rattle.turning.proofs.Widths.{Laws, laws}

-- a block whose bit at row i and column b was at row f i b and column f b i
record Moved (f : ℕ → ℕ → ℕ) (l₀ l : List ℕ) : Type 0 where
  pub kept : length l ≡ length l₀
  pub bits : (i b : ℕ) → i < 64 → b < 64 → bit b (get_or l i 0) ≡ bit (f b i) (get_or l₀ (f i b) 0)

unmoved : (l : List ℕ) → Moved (λ i b. i) l l
unmoved l = record { kept = refl; bits = λ i b h g. refl }

-- one stage more
moved_more : {f : ℕ → ℕ → ℕ} {j mask : ℕ} {l₀ l l' : List ℕ} → Laws j mask → Moved f l₀ l → Exchanged j l l'
    → Moved (λ i b. f (crossed j i b) (crossed j b i)) l₀ l'
moved_more {f} {j} n m x = record {
  kept = x.kept ∙ m.kept;
  bits = λ i b h g. x.bits i b h g ∙ m.bits (crossed j i b) (crossed j b i) (n.crossed_in i b h g) (n.crossed_in b i g h);
}

turned : {f : ℕ → ℕ → ℕ} {l₀ l : List ℕ} → Moved f l₀ l → T (below 64 (λ i. below 64 (λ b. eqb (f i b) b))) → Turned l₀ l
turned {f} {l₀} {l} m t = record {
  kept = m.kept;
  bits = λ i b h g. m.bits i b h g ∙ ap₂ (λ (x y : ℕ). bit x (get_or l₀ y 0)) (equal_at_two 64 f (λ i b. b) t b i g h) (equal_at_two 64 f (λ i b. b) t i b h g);
}

pub six_stages : {l₀ l₁ l₂ l₃ l₄ l₅ l₆ : List ℕ} → Exchanged 32 l₀ l₁ → Exchanged 16 l₁ l₂ → Exchanged 8 l₂ l₃ → Exchanged 4 l₃ l₄ → Exchanged 2 l₄ l₅
    → Exchanged 1 l₅ l₆ → Turned l₀ l₆
unfolding crossed
six_stages {l₀ = l₀} a b c d e f =
    let first = moved_more (laws by32) (unmoved l₀) a in
    let second = moved_more (laws by16) first b in
    let third = moved_more (laws by8) second c in
    let fourth = moved_more (laws by4) third d in
    let fifth = moved_more (laws by2) fourth e in
    turned (moved_more (laws by1) fifth f) tt
