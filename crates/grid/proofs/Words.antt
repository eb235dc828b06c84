-- A row of a matrix in planes that a loop makes anew, word after word, from words of other rows. Assumes nothing.
use mathlib.Core.Path.{◌≡◌, refl, sym, ap, ap₂, ◌∙◌, fun_ext}
use mathlib.Core.Bool.{Bool, ◌&&◌, cond, and-false}
use mathlib.Core.Logic.{◌⊎◌, inl, inr, ◌≢◌}
use mathlib.Core.List.{List}
use Prim.Native.Nat.{ℕ, ◌+◌, ◌-◌, ◌*◌, ◌/◌, ◌%◌, ◌≤◌, ◌<◌}
use native.Mathlib.Decide.{dec_lt, ℕ_discrete}
use native.Mathlib.Omega.{arith}
use borrow.Author.Tests.{eq-eqb, ne_eqb, le-leb, lt-leb, lt-ltb, le-ltb}
use lib.Dec.{leb}
use lib.ListN.{length, get_or, set, length-set}
use lib.Seq.{get_or-set_same, get_or-set_other}
use lib.Bits.{bit_and}
use Rattle.trits.specs.Trit.{Trit, t0}
use Rattle.trits.specs.Planes.{bit, trit}
use Rattle.trits.specs.Rows.{matrix_at}
use Rattle.trits.proofs.Reading.{trit_at_word}
use Rattle.trits.proofs.Matrix.{row_le, rows_apart}
use Rattle.matrix.specs.Linear.{Vector}
use Rattle.grid.specs.Steps.{Rows, Grid, Joined, put_row, within}
use Rattle.grid.proofs.Cells.{cell_past, cell_word, grid_by}

-- ---- two words, and the trits that they hold

pub record Word (x y : ℕ) (v : Vector) : Type 0 where
  pub apart : bit_and x y ≡ 0
  pub bits : (b : ℕ) → b < 64 → trit (bit b x) (bit b y) ≡ v b

-- what an operation makes of them
pub joined_word : {op : Trit → Trit → Trit} {a b c d : ℕ} {r : ℕ × ℕ} {u v : Vector} → Joined op a b c d r → Word a b u → Word c d v
    → Word r.0 r.1 (λ k. op (u k) (v k))
joined_word {op = op} o p q = record {
  apart = o.apart p.apart q.apart;
  bits = λ k l. o.trits p.apart q.apart k ∙ ap₂ op (p.bits k l) (q.bits k l);
}

-- words like two others
word_like : {a b x y : ℕ} {v : Vector} → x ≡ a → y ≡ b → Word a b v → Word x y v
word_like e f h = record {
  apart = ap₂ bit_and e f ∙ h.apart;
  bits = λ k l. ap₂ (λ (p q : ℕ). trit (bit k p) (bit k q)) e f ∙ h.bits k l;
}

-- other trits that are the same
word_same : {x y : ℕ} {u v : Vector} → Word x y u → ((b : ℕ) → b < 64 → u b ≡ v b) → Word x y v
word_same h e = record { apart = h.apart; bits = λ k l. h.bits k l ∙ e k l }

-- word k of row i
word_at : {o t : List ℕ} {r w : ℕ} → Rows o t r w → (i k : ℕ) → k < w →
    Word (get_or o (i * w + k) 0) (get_or t (i * w + k) 0) (λ b. matrix_at w o t i (64 * k + b))
word_at {o} {t} {w = w} g i k h = record {
  apart = g.row.apart.word (i * w + k);
  bits = λ b l.
      let e : (64 * k + b) % 64 ≡ b = omega arith in
      let f : (64 * k + b) / 64 ≡ k = omega arith in
      sym (cell_word w o t i (64 * k + b) (omega arith) ∙ ap₂ (λ (x y : ℕ). trit (bit x (get_or o (i * w + y) 0)) (bit x (get_or t (i * w + y) 0))) e f);
}

-- ---- row d gets the trits v: the loop is before word k, and words that it has passed or never comes to are v's already

pub record Making (v : Vector) (r w d k : ℕ) (o₀ t₀ o t : List ℕ) : Type 0 where
  pub grid : Rows o₀ t₀ r w
  pub own : d * w + w ≤ length o₀
  pub same : length t₀ ≡ length o₀
  pub ones_kept : length o ≡ length o₀
  pub twos_kept : length t ≡ length t₀
  pub new : (j : ℕ) → j < k → j < w → Word (get_or o (d * w + j) 0) (get_or t (d * w + j) 0) (λ b. v (64 * j + b))
  pub old : (q : ℕ) → (q < d * w) ⊎ ((d * w + k ≤ q) ⊎ (d * w + w ≤ q)) → (get_or o q 0 ≡ get_or o₀ q 0) × (get_or t q 0 ≡ get_or t₀ q 0)

-- the loop begins at word k
pub making_from : {v : Vector} {o t : List ℕ} {r w d : ℕ} (k : ℕ) → Rows o t r w → d < r → ((q : ℕ) → q < 64 * k → matrix_at w o t d q ≡ v q)
    → Making v r w d k o t o t
making_from {w = w} {d} k g h e = record {
  grid = g;
  own = omega (arith, row_le w h, g.size);
  same = g.row.same;
  ones_kept = refl;
  twos_kept = refl;
  new = λ j l m. word_same (word_at g d j m) (λ b n. e (64 * j + b) (omega arith));
  old = λ q l. (refl, refl);
}

module _ {v : Vector} {r w d k : ℕ} {o₀ t₀ o t : List ℕ} (m : Making v r w d k o₀ t₀ o t) where
  -- a turn reads its own row's word
  pub own_word : k < w → Word (get_or o (d * w + k) 0) (get_or t (d * w + k) 0) (λ b. matrix_at w o₀ t₀ d (64 * k + b))
  own_word h =
      let e = m.old (d * w + k) (inr (inl (omega arith))) in
      word_like e.0 e.1 (word_at m.grid d k h)

  -- and that of another row
  pub other_word : (i : ℕ) → d ≢ i → k < w → Word (get_or o (i * w + k) 0) (get_or t (i * w + k) 0) (λ b. matrix_at w o₀ t₀ i (64 * k + b))
  other_word i f h =
      let e = m.old (i * w + k) (by (rows_apart d i w f)) in
      word_like e.0 e.1 (word_at m.grid i k h)
    where
      by : (d * w + w ≤ i * w) ⊎ (i * w + w ≤ d * w) → (i * w + k < d * w) ⊎ ((d * w + k ≤ i * w + k) ⊎ (d * w + w ≤ i * w + k))
      by (inl g) = inr (inr (omega arith))
      by (inr g) = inl (omega arith)

  -- and stores word k
  pub making_more : {x y : ℕ} → k < w → Word x y (λ b. v (64 * k + b)) → Making v r w d (k + 1) o₀ t₀ (set o (d * w + k) x) (set t (d * w + k) y)
  making_more {x} {y} h s = record {
    grid = m.grid;
    own = m.own;
    same = m.same;
    ones_kept = length-set o (d * w + k) x ∙ m.ones_kept;
    twos_kept = length-set t (d * w + k) y ∙ m.twos_kept;
    new = λ j l n. at j l n (ℕ_discrete j k);
    old = λ q l. (
      get_or-set_other o (d * w + k) q x 0 (off q l) ∙ (m.old q (before q l)).0,
      get_or-set_other t (d * w + k) q y 0 (off q l) ∙ (m.old q (before q l)).1,
    );
  }
    where
      off : (q : ℕ) → (q < d * w) ⊎ ((d * w + (k + 1) ≤ q) ⊎ (d * w + w ≤ q)) → q ≢ d * w + k
      off q (inl l) e = omega arith
      off q (inr (inl l)) e = omega arith
      off q (inr (inr l)) e = omega arith

      before : (q : ℕ) → (q < d * w) ⊎ ((d * w + (k + 1) ≤ q) ⊎ (d * w + w ≤ q)) → (q < d * w) ⊎ ((d * w + k ≤ q) ⊎ (d * w + w ≤ q))
      before q (inl l) = inl l
      before q (inr (inl l)) = inr (inl (omega arith))
      before q (inr (inr l)) = inr (inr l)

      at : (j : ℕ) → j < k + 1 → j < w → Dec (j ≡ k)
          → Word (get_or (set o (d * w + k) x) (d * w + j) 0) (get_or (set t (d * w + k) y) (d * w + j) 0) (λ b. v (64 * j + b))
      at j l n (yes e) =
          rw e (word_like (get_or-set_same o (d * w + k) x 0 (omega (arith, m.ones_kept, m.own)))
          (get_or-set_same t (d * w + k) y 0 (omega (arith, m.twos_kept, m.same, m.own))) s)
      at j l n (no f) =
          word_like (get_or-set_other o (d * w + k) (d * w + j) x 0 (λ z. f (omega arith)))
          (get_or-set_other t (d * w + k) (d * w + j) y 0 (λ z. f (omega arith)))
          (m.new j (omega arith) n)

  -- where it ends row d has v, if the rest of the row had it before
  pub made_grid : ((q : ℕ) → 64 * k ≤ q → q < 64 * w → matrix_at w o₀ t₀ d q ≡ v q) → ((q : ℕ) → 64 * w ≤ q → t0 ≡ v q)
      → Grid o t r w (put_row d v (matrix_at w o₀ t₀))
  made_grid rest past =
      grid_by (record {
        row = record {
          same = m.twos_kept ∙ m.same ∙ sym m.ones_kept;
          apart = record { word = λ q. apart q (dec_lt q (d * w)) (dec_lt (q - d * w) k) (dec_lt (q - d * w) w) };
        };
        size = m.ones_kept ∙ m.grid.size;
      })
      (λ i q l. trit_at_word o t (64 * (i * w) + q) (i * w + q / 64) (q % 64) (omega arith) (omega arith) ∙ at i q l (ℕ_discrete i d) (dec_lt (q / 64) k))
      (λ i q l. by i q l (ℕ_discrete i d))
    where
      apart : (q : ℕ) → Dec (q < d * w) → Dec (q - d * w < k) → Dec (q - d * w < w) → bit_and (get_or o q 0) (get_or t q 0) ≡ 0
      apart q (yes l) a b = ap₂ bit_and (m.old q (inl l)).0 (m.old q (inl l)).1 ∙ m.grid.row.apart.word q
      apart q (no l) (yes a) (yes b) =
          let e : q ≡ d * w + (q - d * w) = omega arith in
          ap (λ (n : ℕ). bit_and (get_or o n 0) (get_or t n 0)) e ∙ (m.new (q - d * w) a b).apart
      apart q (no l) (no a) b =
          let e = m.old q (inr (inl (omega arith))) in
          ap₂ bit_and e.0 e.1 ∙ m.grid.row.apart.word q
      apart q (no l) (yes a) (no b) =
          let e = m.old q (inr (inr (omega arith))) in
          ap₂ bit_and e.0 e.1 ∙ m.grid.row.apart.word q

      kept : (i q : ℕ) → q < 64 * w → (i * w + q / 64 < d * w) ⊎ ((d * w + k ≤ i * w + q / 64) ⊎ (d * w + w ≤ i * w + q / 64))
          → trit (bit (q % 64) (get_or o (i * w + q / 64) 0)) (bit (q % 64) (get_or t (i * w + q / 64) 0)) ≡ matrix_at w o₀ t₀ i q
      kept i q l h =
          let e = m.old (i * w + q / 64) h in
          ap₂ (λ (x y : ℕ). trit (bit (q % 64) x) (bit (q % 64) y)) e.0 e.1 ∙ sym (cell_word w o₀ t₀ i q l)

      beside : (i q : ℕ) → q < 64 * w → (i * w + w ≤ d * w) ⊎ (d * w + w ≤ i * w)
          → (i * w + q / 64 < d * w) ⊎ ((d * w + k ≤ i * w + q / 64) ⊎ (d * w + w ≤ i * w + q / 64))
      beside i q l (inl h) = inl (omega arith)
      beside i q l (inr h) = inr (inr (omega arith))

      at : (i q : ℕ) → q < 64 * w → Dec (i ≡ d) → Dec (q / 64 < k)
          → trit (bit (q % 64) (get_or o (i * w + q / 64) 0)) (bit (q % 64) (get_or t (i * w + q / 64) 0)) ≡ put_row d v (matrix_at w o₀ t₀) i q
      at i q l (yes e) (yes h) =
          let f : 64 * (q / 64) + q % 64 ≡ q = omega arith in
          rw (eq-eqb i d e, e) ((m.new (q / 64) h (omega arith)).bits (q % 64) (omega arith) ∙ ap v f)
      at i q l (yes e) (no h) =
          let f : 64 * k ≤ q = omega arith in
          kept i q l (rw e (inr (inl (omega arith)))) ∙ rw (eq-eqb i d e, e) (rest q f l)
      at i q l (no f) a = kept i q l (beside i q l (rows_apart i d w f)) ∙ rw (ne_eqb i d f)

      by : (i q : ℕ) → 64 * w ≤ q → Dec (i ≡ d) → t0 ≡ put_row d v (matrix_at w o₀ t₀) i q
      by i q l (yes e) = rw (eq-eqb i d e) (past q l)
      by i q l (no f) = rw (ne_eqb i d f) (sym (cell_past w o₀ t₀ i q l))

-- ---- row d gets the trits of x in the words f to v - 1 alone

module _ (f v : ℕ) (x y : Vector) (t : ℕ) where
  pub within_in : (64 * f ≤ t) × (t < 64 * v) → within f v x y t ≡ x t
  unfolding within
  within_in (h, l) = rw (le-leb (64 * f) t h, lt-ltb t (64 * v) l)

  pub within_out : (t < 64 * f) ⊎ (64 * v ≤ t) → within f v x y t ≡ y t
  unfolding within
  within_out (inl h) = rw (lt-leb (64 * f) t h)
  within_out (inr h) =
      ap (λ (s : Bool). cond (leb (64 * f) t && s) (x t) (y t)) (le-ltb t (64 * v) h)
      ∙ ap (λ (s : Bool). cond s (x t) (y t)) (and-false (leb (64 * f) t))

-- the loop begins at word f, is before word k, and ends at word v
pub record MakingWithin (x : Vector) (r w f v d k : ℕ) (o₀ t₀ o t : List ℕ) : Type 0 where
  pub making : Making (within f v x (matrix_at w o₀ t₀ d)) r w d k o₀ t₀ o t
  pub begun : f ≤ k
  pub width : v ≤ w

pub within_from : {x : Vector} {r w f v d : ℕ} {o t : List ℕ} → Rows o t r w → d < r → v ≤ w → MakingWithin x r w f v d f o t o t
within_from {x} {w = w} {f} {v} {d} {o} {t} g h l = record {
  making = making_from f g h (λ q m. sym (within_out f v x (matrix_at w o t d) q (inl m)));
  begun = omega arith;
  width = l;
}

module _ {x : Vector} {r w f v d k : ℕ} {o₀ t₀ o t : List ℕ} (m : MakingWithin x r w f v d k o₀ t₀ o t) where
  pub within_more : {p q : ℕ} → k < v → Word p q (λ b. x (64 * k + b)) → MakingWithin x r w f v d (k + 1) o₀ t₀ (set o (d * w + k) p) (set t (d * w + k) q)
  within_more h s =
      let e = m.begun in
      let l = m.width in record {
        making = making_more m.making (omega arith)
            (word_same s (λ b n. sym (within_in f v x (matrix_at w o₀ t₀ d) (64 * k + b) (omega arith, omega arith))));
        begun = omega arith;
        width = l;
      }

  -- where it ends row d has them
  pub within_made : v ≤ k → Grid o t r w (put_row d (within f v x (matrix_at w o₀ t₀ d)) (matrix_at w o₀ t₀))
  within_made h =
      let l = m.width in
      let out : (q : ℕ) → 64 * v ≤ q → matrix_at w o₀ t₀ d q ≡ within f v x (matrix_at w o₀ t₀ d) q =
      λ q a. sym (within_out f v x (matrix_at w o₀ t₀ d) q (inr a)) in
      made_grid m.making (λ q a b. out q (omega arith)) (λ q a. sym (cell_past w o₀ t₀ d q a) ∙ out q (omega arith))

-- all words of row d from row i: past both rows is nothing
pub within_whole : (w : ℕ) (o t : List ℕ) (d i : ℕ) → within 0 w (matrix_at w o t i) (matrix_at w o t d) ≡ matrix_at w o t i
within_whole w o t d i = fun_ext (λ q. at q (dec_lt q (64 * w)))
  where
    at : (q : ℕ) → Dec (q < 64 * w) → within 0 w (matrix_at w o t i) (matrix_at w o t d) q ≡ matrix_at w o t i q
    at q (yes l) = within_in 0 w (matrix_at w o t i) (matrix_at w o t d) q (omega arith, l)
    at q (no h) =
        within_out 0 w (matrix_at w o t i) (matrix_at w o t d) q (inr (omega arith))
        ∙ cell_past w o t d q (omega arith) ∙ sym (cell_past w o t i q (omega arith))
