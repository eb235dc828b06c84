-- One plane whose columns are gathered from its own rows: the columns turned, a word of some rows, these rows, all rows. Assumes nothing.
use mathlib.Core.Path.{◌≡◌, refl, sym, ap, ◌∙◌}
use mathlib.Core.List.{List}
use Prim.Native.Nat.{ℕ, ◌+◌, ◌*◌, ◌/◌, ◌%◌, ◌≤◌, ◌<◌}
use native.Mathlib.Nat.{mul-le-mul_right}
use native.Mathlib.Decide.{dec_lt}
use native.Mathlib.Omega.{arith}
use borrow.Rule.Slice.PartMut.{mid_of, put_mid}
use lib.ListN.{length, get_or, take}
use lib.Seq.{get_or-take}
use Rattle.trits.specs.Planes.{bit}
use Rattle.trits.proofs.Matrix.{row_le}
use Rattle.trits.proofs.Patches.{Patched}
use Rattle.trits.proofs.Parts.{length_mid, put_patched}
use Rattle.gathering.specs.Steps.{picked, TurnedPick, Stored, GatheredRows, EndOf}
use Rattle.gathering.specs.Own.{OwnBlock}
use Rattle.gathering.proofs.Blocks.{picked_same}
use Rattle.gathering.proofs.Planes.{word_gathered, GatheringRows, rows_turn, plane_none, plane_turn}
use Rattle.gathering.proofs.OwnBlocks.{same_front}
use Rattle.build_columns.specs.Steps.{OwnColumns, OwnWord, OwnRows}

-- ---- the columns of some rows

module _ {l₀ l l' : List ℕ} {w r i c : ℕ} (at : ℕ) (d : at ≡ r * w + 64 * c) (room : r * w ≤ length l₀) (a : OwnColumns w r i c l₀ l)
    (b : OwnBlock w r i c at l l') where
  by : (q x : ℕ) → q < 64 * (c + 1) → x < 64 → Dec (q < 64 * c)
      → bit x (get_or l' (r * w + q) 0) ≡ bit (q % 64) (get_or (take (r * w) l₀) ((i + x) * w + q / 64) 0)
  by q x g f (yes o) = ap (bit x) (b.before (r * w + q) (omega arith)) ∙ a.bits q x o f
  by q x g f (no o) =
      let u : r * w + q ≡ at + q % 64 = omega arith in
      let v : c ≡ q / 64 = omega arith in
      ap (λ (z : ℕ). bit x (get_or l' z 0)) u ∙ b.bits (q % 64) x (omega arith) f
      ∙ ap (λ (z : List ℕ). bit (q % 64) (get_or z ((i + x) * w + c) 0)) (same_front (r * w) l₀ l room a.kept a.before)
      ∙ ap (λ (z : ℕ). bit (q % 64) (get_or (take (r * w) l₀) ((i + x) * w + z) 0)) v

  pub own_turn : OwnColumns w r i (c + 1) l₀ l'
  own_turn = record {
    kept = b.kept ∙ a.kept;
    bits = λ q x g f. by q x g f (dec_lt q (64 * c));
    before = λ p g. b.before p (omega arith) ∙ a.before p g;
    past = λ p g. b.past p (omega arith) ∙ a.past p (omega arith);
  }

-- ---- a word of some rows

module _ (plane columns : List ℕ) (w r i e m c n : ℕ) {ys l : List ℕ} (d : n ≡ 243 * w) (room : r * w + 243 * w ≤ length plane) (rows : EndOf i r e)
    (hc : c < w) (places : (j : ℕ) → j < m → get_or columns j 0 < 64 * w) (t : TurnedPick columns m w c (mid_of (r * w) n plane) ys)
    (s : Stored (r * w + 64 * w) w i e c (put_mid (r * w) n plane ys) l) where
  fits : r * w + n ≤ length plane
  fits = omega arith

  back : Patched (λ j. get_or ys j 0) (r * w) n plane (put_mid (r * w) n plane ys)
  back = put_patched (r * w) n plane fits ys (t.kept ∙ length_mid (r * w) n plane fits)

  pub own_word : OwnWord w r i e columns m c plane l
  own_word = record {
    word = word_gathered plane columns w r i e m c n d room rows hc places t s;
    after = λ p g h. s.rest p (λ k f o z. omega (arith, row_le w o)) ∙ back.below p h;
  }

-- ---- the words of some rows

-- the words below c of the rows i to e - 1 are gathered from the first r rows, and the rows after them are as they were
pub record OwnGathering (w r i e : ℕ) (columns : List ℕ) (m c : ℕ) (l₀ l : List ℕ) : Type 0 where
  pub rows : GatheringRows w r i e (take (r * w) l₀) columns m c l₀ l
  pub after : (p : ℕ) → e * w ≤ p → p < r * w → get_or l p 0 ≡ get_or l₀ p 0

pub gathering_none : {l₀ l columns : List ℕ} {w r i e m : ℕ} → r * w ≤ length l₀ → OwnColumns w r i w l₀ l → OwnGathering w r i e columns m 0 l l
gathering_none {l₀} {l} {columns} {w} {r} {i} {e} {m} room a = record {
  rows = record {
    kept = refl;
    columns = λ q x g f. a.bits q x g f
        ∙ ap (λ (z : List ℕ). bit (q % 64) (get_or z ((i + x) * w + q / 64) 0)) (sym (same_front (r * w) l₀ l room a.kept a.before));
    bits = λ k q g f o. absurd (omega arith);
    before = λ p g. refl;
    past = λ p g. refl;
  };
  after = λ p g h. refl;
}

pub gathering_turn : {l₀ l l' columns : List ℕ} {w r i e m c : ℕ} → EndOf i r e → c < w → ((j : ℕ) → j < m → get_or columns j 0 < 64 * w)
    → OwnGathering w r i e columns m c l₀ l → OwnWord w r i e columns m c l l' → OwnGathering w r i e columns m (c + 1) l₀ l'
gathering_turn rows h places a b =
    record { rows = rows_turn rows h places a.rows b.word; after = λ p g f. b.after p g f ∙ a.after p g f }

pub gathering_done : {l₀ l₁ l columns : List ℕ} {w r i e m c : ℕ} → r * w ≤ length l₀ → EndOf i r e → OwnColumns w r i w l₀ l₁
    → OwnGathering w r i e columns m c l₁ l → c ≡ w → OwnRows w r i e columns m l₀ l
gathering_done {l₀} {l₁} {l} {columns} {w} {r} {i} {e} {m} room rows a b d = record {
  rows = record {
    kept = b.rows.kept ∙ a.kept;
    bits = λ k q g f o.
        b.rows.bits k q g f (omega arith)
        ∙ ap (λ (z : List ℕ). picked (λ p. bit (p % 64) (get_or z (k * w + p / 64) 0)) columns m q) (same_front (r * w) l₀ l₁ room a.kept a.before);
    before = λ p g.
        b.rows.before p g ∙ a.before p (omega (arith, mul-le-mul_right {m = i} {n = r} w (omega (arith, rows.some, rows.within))));
    past = λ p g. b.rows.past p g ∙ a.past p (omega arith);
  };
  after = λ p g h. b.after p g h ∙ a.before p h;
}

-- ---- all rows

pub own_plane_none : (w r : ℕ) (columns : List ℕ) (m : ℕ) (l : List ℕ) → OwnRows w r 0 0 columns m l l
own_plane_none w r columns m l = record { rows = plane_none w r (take (r * w) l) columns m l; after = λ p g h. refl }

module _ {l₀ l l' columns : List ℕ} {w r i e m : ℕ} (rows : EndOf i r e) (places : (j : ℕ) → j < m → get_or columns j 0 < 64 * w)
    (a : OwnRows w r 0 i columns m l₀ l) (b : OwnRows w r i e columns m l l') where
  -- a row that is still to be gathered has the words that it had at first
  same_row : (k q : ℕ) → i ≤ k → k < e
      → picked (λ p. bit (p % 64) (get_or (take (r * w) l) (k * w + p / 64) 0)) columns m q
      ≡ picked (λ p. bit (p % 64) (get_or (take (r * w) l₀) (k * w + p / 64) 0)) columns m q
  same_row k q g f =
      picked_same (λ p. bit (p % 64) (get_or (take (r * w) l) (k * w + p / 64) 0)) (λ p. bit (p % 64) (get_or (take (r * w) l₀) (k * w + p / 64) 0)) columns m q
      (λ j o.
      let p = get_or columns j 0 in
      let n = k * w + p / 64 in
      let h : n < r * w = omega (arith, places j o, row_le w {i = k} {m = r} (omega (arith, rows.within))) in
      ap (bit (p % 64)) (get_or-take (r * w) l n 0 h ∙ a.after n (omega (arith, mul-le-mul_right w g)) h ∙ sym (get_or-take (r * w) l₀ n 0 h)))

  from_first : GatheredRows w r i e (take (r * w) l₀) columns m l l'
  from_first = record {
    kept = b.rows.kept;
    bits = λ k q g f o. b.rows.bits k q g f o ∙ same_row k q g f;
    before = b.rows.before;
    past = b.rows.past;
  }

  pub own_plane_turn : OwnRows w r 0 e columns m l₀ l'
  own_plane_turn = record {
    rows = plane_turn a.rows from_first;
    after = λ p g h. b.after p g h ∙ a.after p (omega (arith, mul-le-mul_right {m = i} {n = e} w (omega (arith, rows.some)))) h;
  }
