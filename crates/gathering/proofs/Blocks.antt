-- Blocks of 64 words: loaded, turned, picked from the columns, and stored. Assumes nothing.
use mathlib.Core.Path.{◌≡◌, refl, sym, ap, ◌∙◌}
use mathlib.Core.Bool.{Bool, true, false, cond}
use mathlib.Core.List.{List}
use Prim.Native.Nat.{ℕ, ◌+◌, ◌-◌, ◌*◌, ◌/◌, ◌%◌, ◌≤◌, ◌<◌}
use native.Mathlib.Nat.{zero-add}
use native.Mathlib.Decide.{dec_lt, ℕ_discrete}
use native.Mathlib.Omega.{arith}
use borrow.Author.Tests.{lt-ltb, le-ltb}
use borrow.Rule.Slice.PartMut.{mid_of, put_mid}
use lib.Dec.{ltb}
use lib.ListN.{length, get_or, set, length-set}
use lib.Seq.{get_or-set_same, get_or-set_other}
use Rattle.trits.specs.Planes.{bit}
use Rattle.trits.proofs.Bits.{bit_none}
use Rattle.trits.proofs.Matrix.{row_le}
use Rattle.trits.proofs.Patches.{Patched}
use Rattle.trits.proofs.Parts.{length_mid, get_d_mid, put_patched}
use Rattle.turning.specs.Steps.{Turned}
use Rattle.grid.proofs.Swaps.{off_row}
use Rattle.gathering.specs.Steps.{Loaded, TurnedBlock, Columns, picked, Picked, TurnedPick, Stored}

-- ---- the words of rows, loaded and turned

pub loaded : {h l₀ l : List ℕ} {i w c x : ℕ} → Patched (λ y. get_or h ((i + y) * w + c) 0) 0 x l₀ l → length l₀ ≡ 64 → 64 ≤ x → Loaded h i w c l
loaded {l = l} p e g = record {
  size = p.kept ∙ e;
  words = λ y h. ap (λ (z : ℕ). get_or l z 0) (sym (zero-add y)) ∙ p.new y (omega arith);
}

pub turned_block : {h l₁ l : List ℕ} {i w c : ℕ} → Loaded h i w c l₁ → Turned l₁ l → TurnedBlock h i w c l
turned_block a t = record { size = t.kept ∙ a.size; bits = λ b x g h. t.bits b x g h ∙ ap (bit b) (a.words x h) }

pub columns_turn : {h l₀ l ys : List ℕ} {i w c : ℕ} (n : ℕ) → n ≡ 64 → Columns h i w c l₀ l → TurnedBlock h i w c ys → 64 * c + 64 ≤ length l
    → Columns h i w (c + 1) l₀ (put_mid (64 * c) n l ys)
columns_turn {h} {l₀} {l} {ys} {i} {w} {c} n d a t e = record { kept = p.kept ∙ a.kept; bits = λ q x g f. by q x g f (dec_lt q (64 * c)) }
  where
    p : Patched (λ j. get_or ys j 0) (64 * c) n l (put_mid (64 * c) n l ys)
    p = put_patched (64 * c) n l (omega arith) ys (t.size ∙ sym d)

    by : (q x : ℕ) → q < 64 * (c + 1) → x < 64 → Dec (q < 64 * c) → bit x (get_or (put_mid (64 * c) n l ys) q 0)
        ≡ bit (q % 64) (get_or h ((i + x) * w + q / 64) 0)
    by q x g f (yes o) = ap (bit x) (p.below q o) ∙ a.bits q x o f
    by q x g f (no o) =
        let u : q ≡ 64 * c + q % 64 = omega arith in
        let v : c ≡ q / 64 = omega arith in
        ap (λ (z : ℕ). bit x (get_or (put_mid (64 * c) n l ys) z 0)) u ∙ ap (bit x) (p.new (q % 64) (omega arith)) ∙ t.bits (q % 64) x (omega arith) f
        ∙ ap (λ (z : ℕ). bit (q % 64) (get_or h ((i + x) * w + z) 0)) v

-- ---- what is picked

module _ (f : ℕ → ℕ) (order : List ℕ) (m p : ℕ) where
  pub picked_in : p < m → picked f order m p ≡ f (get_or order p 0)
  unfolding picked
  picked_in h = ap (λ (t : Bool). cond t (f (get_or order p 0)) 0) (lt-ltb p m h)

  pub picked_past : m ≤ p → picked f order m p ≡ 0
  unfolding picked
  picked_past h = ap (λ (t : Bool). cond t (f (get_or order p 0)) 0) (le-ltb p m h)

-- two that agree at the order's places
pub picked_same : (f g : ℕ → ℕ) (order : List ℕ) (m p : ℕ) → ((j : ℕ) → j < m → f (get_or order j 0) ≡ g (get_or order j 0))
    → picked f order m p ≡ picked g order m p
picked_same f g order m p e = by (dec_lt p m)
  where
    by : Dec (p < m) → picked f order m p ≡ picked g order m p
    by (yes h) = picked_in f order m p h ∙ e p h ∙ sym (picked_in g order m p h)
    by (no h) = picked_past f order m p (omega arith) ∙ sym (picked_past g order m p (omega arith))

-- a bit of what is picked
pub picked_bit : (x : ℕ) (f : ℕ → ℕ) (order : List ℕ) (m p : ℕ) → bit x (picked f order m p) ≡ picked (λ q. bit x (f q)) order m p
unfolding picked
picked_bit x f order m p = by (ltb p m)
  where
    by : (t : Bool) → bit x (cond t (f (get_or order p 0)) 0) ≡ cond t (bit x (f (get_or order p 0))) 0
    by true = refl
    by false = bit_none x

-- ---- the columns picked, and turned back

pub picked_block : {order l₀ l : List ℕ} {m w c x : ℕ} → Patched (λ y. picked (λ q. get_or l₀ q 0) order m (64 * c + y)) (64 * w) x l₀ l → 64 ≤ x
    → Picked order m w c l₀ l
picked_block p g = record { kept = p.kept; words = λ y h. p.new y (omega arith); columns = p.below }

pub turned_pick : {order l₀ l₁ ys : List ℕ} {m w c : ℕ} (n : ℕ) → n ≡ 64 → Picked order m w c l₀ l₁ → 64 * w + 64 ≤ length l₁
    → Turned (mid_of (64 * w) n l₁) ys → TurnedPick order m w c l₀ (put_mid (64 * w) n l₁ ys)
turned_pick {order} {l₀} {l₁} {ys} {m} {w} {c} n d p e t =
    let f : 64 * w + n ≤ length l₁ = omega arith in
    let a : Patched (λ j. get_or ys j 0) (64 * w) n l₁ (put_mid (64 * w) n l₁ ys) =
    put_patched (64 * w) n l₁ f ys (t.kept ∙ length_mid (64 * w) n l₁ f) in
    record {
      kept = a.kept ∙ p.kept;
      bits = λ x b h g. ap (bit b) (a.new x (omega arith)) ∙ t.bits x b h g ∙ ap (bit x) (get_d_mid (64 * w) n l₁ f b (omega arith) ∙ p.words b g);
      columns = λ q h. a.below q h ∙ p.columns q h;
    }

-- ---- the rows' words stored

pub stored_turn : {at w i k e c : ℕ} {l₀ l : List ℕ} → Stored at w i k c l₀ l → i ≤ k → k < e → c < w → e * w ≤ at → at ≤ length l₀
    → Stored at w i (k + 1) c l₀ (set l (k * w + c) (get_or l (at + (k - i)) 0))
stored_turn {at} {w} {i} {k} {e} {c} {l₀} {l} s hi hk hc ha hl = record {
  kept = length-set l (k * w + c) v ∙ s.kept;
  words = λ j g h. by j g h (ℕ_discrete j k);
  rest = λ p f. get_or-set_other l (k * w + c) p v 0 (f k hi (omega arith)) ∙ s.rest p (λ j g h. f j g (omega arith));
}
  where
    v : ℕ
    v = get_or l (at + (k - i)) 0

    by : (j : ℕ) → i ≤ j → j < k + 1 → Dec (j ≡ k) → get_or (set l (k * w + c) v) (j * w + c) 0 ≡ get_or l₀ (at + (j - i)) 0
    by j g h (yes d) =
        ap (λ (z : ℕ). get_or (set l (k * w + c) v) (z * w + c) 0) d ∙ get_or-set_same l (k * w + c) v 0 (omega (arith, s.kept, row_le w hk))
        ∙ s.rest (at + (k - i)) (λ n a b d. omega (arith, row_le w {i = n} {m = e} (omega arith))) ∙ ap (λ (z : ℕ). get_or l₀ (at + (z - i)) 0) (sym d)
    by j g h (no d) = get_or-set_other l (k * w + c) (j * w + c) v 0 (off_row w j k c c d hc hc) ∙ s.words j g (omega arith)
