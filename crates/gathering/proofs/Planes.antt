-- One plane: a word of some rows, these rows, and all rows gathered. Assumes nothing.
use mathlib.Core.Path.{◌≡◌, refl, ap, ◌∙◌, subst}
use mathlib.Core.List.{List}
use Prim.Native.Nat.{ℕ, ◌+◌, ◌-◌, ◌*◌, ◌/◌, ◌%◌, ◌≤◌, ◌<◌}
use native.Mathlib.Nat.{mul-le-mul_right}
use native.Mathlib.Decide.{dec_lt}
use native.Mathlib.Omega.{arith}
use borrow.Rule.Slice.PartMut.{mid_of, put_mid}
use lib.ListN.{length, get_or}
use Rattle.trits.specs.Planes.{bit}
use Rattle.trits.proofs.Matrix.{row_le}
use Rattle.trits.proofs.Patches.{Patched}
use Rattle.trits.proofs.Parts.{length_mid, get_d_mid, put_patched}
use Rattle.grid.proofs.Swaps.{off_place}
use Rattle.gathering.specs.Steps.{Columns, picked, TurnedPick, Stored, GatheredWord, GatheredRows, EndOf}
use Rattle.gathering.proofs.Blocks.{picked_same, picked_bit}

-- ---- one word of some rows

module _ (plane order : List ℕ) (w r i e m c n : ℕ) {ys l : List ℕ} (d : n ≡ 243 * w) (room : r * w + 243 * w ≤ length plane) (rows : EndOf i r e) (hc : c < w)
    (places : (j : ℕ) → j < m → get_or order j 0 < 64 * w) (t : TurnedPick order m w c (mid_of (r * w) n plane) ys)
    (s : Stored (r * w + 64 * w) w i e c (put_mid (r * w) n plane ys) l) where
  fits : r * w + n ≤ length plane
  fits = omega arith

  back : Patched (λ j. get_or ys j 0) (r * w) n plane (put_mid (r * w) n plane ys)
  back = put_patched (r * w) n plane fits ys (t.kept ∙ length_mid (r * w) n plane fits)

  -- the rows end before the working words
  row_before : {k : ℕ} → k < e → k * w + w ≤ r * w
  row_before {k} h = row_le w {i = k} {m = r} (omega (arith, rows.within))

  pub word_gathered : GatheredWord w r i e order m c plane l
  word_gathered = record {
    kept = s.kept ∙ back.kept;
    bits = λ k b g h o.
        let u : r * w + 64 * w + (k - i) ≡ r * w + (64 * w + (k - i)) = omega arith in
        ap (bit b) (s.words k g h ∙ ap (λ (z : ℕ). get_or (put_mid (r * w) n plane ys) z 0) u ∙ back.new (64 * w + (k - i)) (omega (arith, rows.near)))
        ∙ t.bits (k - i) b (omega (arith, rows.near)) o
        ∙ ap (bit (k - i)) (picked_same (λ q. get_or (mid_of (r * w) n plane) q 0) (λ q. get_or plane (r * w + q) 0) order m (64 * c + b)
        (λ j f. get_d_mid (r * w) n plane fits (get_or order j 0) (omega (arith, places j f))));
    columns = λ q h.
        s.rest (r * w + q) (λ k g f z. omega (arith, row_before f)) ∙ back.new q (omega arith) ∙ t.columns q h
        ∙ get_d_mid (r * w) n plane fits q (omega arith);
    beside = λ k j g h o f. s.rest (k * w + j) (λ x y z. off_place w k x j c f o hc) ∙ back.below (k * w + j) (omega (arith, row_before h));
    before = λ p h.
        s.rest p (λ k g f z. omega (arith, mul-le-mul_right w g))
        ∙ back.below p (omega (arith, mul-le-mul_right {m = i} {n = r} w (omega (arith, rows.some, rows.within))));
    past = λ p h. s.rest p (λ k g f z. omega (arith, row_before f)) ∙ back.above p (omega arith);
  }

-- ---- the words of some rows

-- the words below c of the rows i to e - 1 are gathered, and the columns stand after r rows
pub record GatheringRows (w r i e : ℕ) (h order : List ℕ) (m c : ℕ) (l₀ l : List ℕ) : Type 0 where
  pub kept : length l ≡ length l₀
  pub columns : (q x : ℕ) → q < 64 * w → x < 64 → bit x (get_or l (r * w + q) 0) ≡ bit (q % 64) (get_or h ((i + x) * w + q / 64) 0)
  pub bits : (k q : ℕ) → i ≤ k → k < e → q < 64 * c
      → bit (q % 64) (get_or l (k * w + q / 64) 0) ≡ picked (λ p. bit (p % 64) (get_or h (k * w + p / 64) 0)) order m q
  pub before : (p : ℕ) → p < i * w → get_or l p 0 ≡ get_or l₀ p 0
  pub past : (p : ℕ) → r * w + 243 * w ≤ p → get_or l p 0 ≡ get_or l₀ p 0

pub rows_none : {plane ys h order : List ℕ} {w r i e m : ℕ} (n : ℕ) → n ≡ 243 * w → r * w + 243 * w ≤ length plane → EndOf i r e
    → Columns h i w w (mid_of (r * w) n plane) ys → GatheringRows w r i e h order m 0 plane (put_mid (r * w) n plane ys)
rows_none {plane} {ys} {h} {w = w} {r} {i} n d room rows t =
    let f : r * w + n ≤ length plane = omega arith in
    let p : Patched (λ j. get_or ys j 0) (r * w) n plane (put_mid (r * w) n plane ys) =
    put_patched (r * w) n plane f ys (t.kept ∙ length_mid (r * w) n plane f) in
    record {
      kept = p.kept;
      columns = λ q x g o. ap (bit x) (p.new q (omega arith)) ∙ t.bits q x g o;
      bits = λ k q g o z. absurd (omega arith);
      before = λ q g. p.below q (omega (arith, mul-le-mul_right {m = i} {n = r} w (omega (arith, rows.some, rows.within))));
      past = λ q g. p.above q (omega arith);
    }

module _ {l₀ l l' h order : List ℕ} {w r i e m c : ℕ} (rows : EndOf i r e) (hc : c < w) (places : (j : ℕ) → j < m → get_or order j 0 < 64 * w)
    (a : GatheringRows w r i e h order m c l₀ l) (b : GatheredWord w r i e order m c l l') where
  -- the columns' bits of row k are the lent row's
  row_bits : (k p : ℕ) → i ≤ k → k < e
      → picked (λ q. bit (k - i) (get_or l (r * w + q) 0)) order m p ≡ picked (λ q. bit (q % 64) (get_or h (k * w + q / 64) 0)) order m p
  row_bits k p g f =
      picked_same (λ q. bit (k - i) (get_or l (r * w + q) 0)) (λ q. bit (q % 64) (get_or h (k * w + q / 64) 0)) order m p (λ j o.
      let q = get_or order j 0 in
      let u : i + (k - i) ≡ k = omega arith in
      a.columns q (k - i) (places j o) (omega (arith, rows.near)) ∙ ap (λ (z : ℕ). bit (q % 64) (get_or h (z * w + q / 64) 0)) u)

  by : (k q : ℕ) → i ≤ k → k < e → q < 64 * (c + 1) → Dec (q < 64 * c)
      → bit (q % 64) (get_or l' (k * w + q / 64) 0) ≡ picked (λ p. bit (p % 64) (get_or h (k * w + p / 64) 0)) order m q
  by k q g f o (yes d) = ap (bit (q % 64)) (b.beside k (q / 64) g f (omega arith) (λ z. omega arith)) ∙ a.bits k q g f d
  by k q g f o (no d) =
      let u : q / 64 ≡ c = omega arith in
      let v : 64 * c + q % 64 ≡ q = omega arith in
      ap (λ (z : ℕ). bit (q % 64) (get_or l' (k * w + z) 0)) u ∙ b.bits k (q % 64) g f (omega arith)
      ∙ ap (λ (z : ℕ). bit (k - i) (picked (λ p. get_or l (r * w + p) 0) order m z)) v
      ∙ picked_bit (k - i) (λ p. get_or l (r * w + p) 0) order m q ∙ row_bits k q g f

  pub rows_turn : GatheringRows w r i e h order m (c + 1) l₀ l'
  rows_turn = record {
    kept = b.kept ∙ a.kept;
    columns = λ q x g f. ap (bit x) (b.columns q g) ∙ a.columns q x g f;
    bits = λ k q g f o. by k q g f o (dec_lt q (64 * c));
    before = λ p g. b.before p g ∙ a.before p g;
    past = λ p g. b.past p g ∙ a.past p g;
  }

-- where the loop begins, and where it ends
pub rows_begin : {l₀ l h order : List ℕ} {w r i e m : ℕ} → GatheringRows w r i e h order m 0 l₀ l → GatheringRows w r i e h order m 0 l l
rows_begin a = record { kept = refl; columns = a.columns; bits = a.bits; before = λ p g. refl; past = λ p g. refl }

pub rows_done : {l₀ l₁ l h order : List ℕ} {w r i e m c : ℕ} → GatheringRows w r i e h order m 0 l₀ l₁ → GatheringRows w r i e h order m c l₁ l → c ≡ w
    → GatheredRows w r i e h order m l₀ l
rows_done a b d = record {
  kept = b.kept ∙ a.kept;
  bits = λ k q g f o. b.bits k q g f (omega arith);
  before = λ p g. b.before p g ∙ a.before p g;
  past = λ p g. b.past p g ∙ a.past p g;
}

-- ---- all rows

pub plane_none : (w r : ℕ) (h order : List ℕ) (m : ℕ) (l : List ℕ) → GatheredRows w r 0 0 h order m l l
plane_none w r h order m l = record { kept = refl; bits = λ k q g f. absurd (omega arith); before = λ p g. refl; past = λ p g. refl }

pub plane_turn : {l₀ l l' h order : List ℕ} {w r i e m : ℕ} → GatheredRows w r 0 i h order m l₀ l → GatheredRows w r i e h order m l l'
    → GatheredRows w r 0 e h order m l₀ l'
plane_turn {l₀} {l} {l'} {h} {order} {w} {r} {i} {e} {m} a b = record {
  kept = b.kept ∙ a.kept;
  bits = λ k q g f o. by k q f o (dec_lt k i);
  before = λ p g. absurd (omega arith);
  past = λ p g. b.past p g ∙ a.past p g;
}
  where
    by : (k q : ℕ) → k < e → q < 64 * w → Dec (k < i)
        → bit (q % 64) (get_or l' (k * w + q / 64) 0) ≡ picked (λ p. bit (p % 64) (get_or h (k * w + p / 64) 0)) order m q
    by k q f o (yes d) = ap (bit (q % 64)) (b.before (k * w + q / 64) (omega (arith, row_le w d))) ∙ a.bits k q (omega arith) d o
    by k q f o (no d) = b.bits k q (omega arith) f o

-- where they end at row n, by whatever reckoning
pub plane_to : {l₀ l l' h order : List ℕ} {w r i e m : ℕ} (n k : ℕ) → GatheredRows w r 0 k h order m l₀ l → k ≡ i → GatheredRows w r i e h order m l l'
    → e ≡ n → GatheredRows w r 0 n h order m l₀ l'
plane_to {l₀} {l} {l'} {h} {order} {w} {r} {m = m} n k a f b g =
    subst (λ (x : ℕ). GatheredRows w r 0 x h order m l₀ l') g (plane_turn (subst (λ (x : ℕ). GatheredRows w r 0 x h order m l₀ l) f a) b)
