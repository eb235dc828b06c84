-- Blocks of a plane's own rows: loaded and turned, and what stays of the rows. Assumes nothing.
use mathlib.Core.Path.{◌≡◌, sym, ap, ◌∙◌}
use mathlib.Core.List.{List}
use Prim.Native.Nat.{ℕ, ◌+◌, ◌*◌, ◌≤◌, ◌<◌}
use native.Mathlib.Nat.{mul-le-mul_right}
use native.Mathlib.Omega.{arith}
use borrow.Rule.Slice.PartMut.{mid_of, put_mid}
use lib.ListN.{length, get_or, take, get_or-eq_default}
use lib.Seq.{length-take-le, get_or-take, ext_get_or}
use Rattle.trits.specs.Planes.{bit}
use Rattle.trits.proofs.Matrix.{row_le}
use Rattle.trits.proofs.Patches.{Patched}
use Rattle.trits.proofs.Parts.{length_mid, get_d_mid, put_patched}
use Rattle.turning.specs.Steps.{Turned}
use Rattle.gathering.specs.Own.{OwnLoaded, OwnBlock}

-- ---- the first rows of a plane

-- the first n words are as they were
pub same_front : (n : ℕ) (l₀ l : List ℕ) → n ≤ length l₀ → length l ≡ length l₀ → ((p : ℕ) → p < n → get_or l p 0 ≡ get_or l₀ p 0) → take n l ≡ take n l₀
same_front n l₀ l h e f =
    let a : length (take n l) ≡ n = length-take-le n l (omega arith) in
    let b : length (take n l₀) ≡ n = length-take-le n l₀ h in
    ext_get_or 0 (take n l) (take n l₀) (a ∙ sym b) (λ p g.
    let d : p < n = omega arith in
    get_or-take n l p 0 d ∙ f p d ∙ sym (get_or-take n l₀ p 0 d))

-- word c of row k, below r and from r on
module _ (l : List ℕ) (w r k c : ℕ) where
  pub front_word : k < r → c < w → get_or (take (r * w) l) (k * w + c) 0 ≡ get_or l (k * w + c) 0
  front_word h o = get_or-take (r * w) l (k * w + c) 0 (omega (arith, row_le w h))

  pub front_past : r ≤ k → r * w ≤ length l → get_or (take (r * w) l) (k * w + c) 0 ≡ 0
  front_past h o = get_or-eq_default (take (r * w) l) 0 (omega (arith, length-take-le (r * w) l o, mul-le-mul_right w h))

-- ---- a block

pub own_loaded : {l₀ l : List ℕ} {w r i c at x : ℕ} → Patched (λ y. get_or (take (r * w) l₀) ((i + y) * w + c) 0) at x l₀ l → x ≡ 64
    → OwnLoaded w r i c at l₀ l
own_loaded p e = record { kept = p.kept; words = λ y h. p.new y (omega arith); before = p.below; past = λ q h. p.above q (omega arith) }

pub own_block : {l₀ l₁ ys : List ℕ} {w r i c at : ℕ} (n : ℕ) → n ≡ 64 → OwnLoaded w r i c at l₀ l₁ → at + 64 ≤ length l₀ → Turned (mid_of at n l₁) ys
    → OwnBlock w r i c at l₀ (put_mid at n l₁ ys)
own_block {l₀} {l₁} {ys} {w} {r} {i} {c} {at} n d a h t =
    let f : at + n ≤ length l₁ = omega (arith, a.kept) in
    let p : Patched (λ j. get_or ys j 0) at n l₁ (put_mid at n l₁ ys) = put_patched at n l₁ f ys (t.kept ∙ length_mid at n l₁ f) in
    record {
      kept = p.kept ∙ a.kept;
      bits = λ x b g o. ap (bit b) (p.new x (omega arith)) ∙ t.bits x b g o ∙ ap (bit x) (get_d_mid at n l₁ f b (omega arith) ∙ a.words b o);
      before = λ q g. p.below q g ∙ a.before q g;
      past = λ q g. p.above q (omega arith) ∙ a.past q g;
    }
