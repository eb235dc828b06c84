-- Half-rows of the secret matrix: the row operations that make them, and the matrix when some are made. Assumes nothing.
use mathlib.Core.Path.{◌≡◌, sym, ap, ap₂, ◌∙◌, fun_ext}
use mathlib.Core.Bool.{Bool, ◌&&◌, cond, and-false}
use mathlib.Core.List.{List}
use Prim.Native.Nat.{ℕ, ◌+◌, ◌-◌, ◌/◌, ◌%◌, ◌≤◌, ◌<◌}
use native.Mathlib.Decide.{dec_lt, ℕ_discrete}
use native.Mathlib.Omega.{arith}
use borrow.Author.Tests.{eq-eqb, ne_eqb, lt-ltb, le-ltb, lt-leb, le-leb}
use lib.Dec.{eqb, leb, ltb}
use lib.ListN.{length}
use Rattle.trits.specs.Trit.{Trit, t0, t1, add_t, mul_t, neg_t, neg_v, zip_v}
use Rattle.trits.specs.Planes.{trit_at, Reads}
use Rattle.trits.specs.Rows.{matrix_at}
use Rattle.trits.proofs.Arithmetic.{law2, law3}
use Rattle.matrix.specs.Linear.{Vector, Matrix}
use Rattle.grid.specs.Steps.{Grid, put_row}
use Rattle.grid.proofs.Cells.{grid_to}
use Rattle.build_matrix.specs.declared.halves.Half.{Half}
use Rattle.build_matrix.specs.declared.halves.Half.TheVariants.{Scaled, Negative, Same}
use Rattle.build_matrix.specs.Steps.{scaled_by, negative_by, half_of, halves_in}

-- ---- the products

pub scaled_trits : (h b c : Vector) → zip_v add_t (zip_v mul_t (zip_v mul_t h b) c) h ≡ scaled_by b c h
scaled_trits h b c = fun_ext (λ q. law3 (λ x y z. add_t (mul_t (mul_t x y) z) x) (λ x y z. mul_t (add_t t1 (mul_t y z)) x) tt (h q) (b q) (c q))

pub negative_trits : (h v : Vector) → neg_v (zip_v mul_t h v) ≡ negative_by v h
negative_trits h v = fun_ext (λ q. law2 (λ x y. neg_t (mul_t x y)) (λ x y. neg_t (mul_t y x)) tt (h q) (v q))

module _ {ho ht o t o₂ t₂ : List ℕ} {n : ℕ} (v : Vector) (e : o ≡ ho) (f : t ≡ ht) (l : length ho ≡ n)
    (m : Reads o₂ t₂ (length o) (zip_v mul_t (trit_at o t) v)) where
  times : trit_at o₂ t₂ ≡ zip_v mul_t (trit_at ho ht) v
  times = m.trits ∙ ap₂ (λ (a b : List ℕ). zip_v mul_t (trit_at a b) v) e f

  pub negative_done : {o₃ t₃ : List ℕ} → Reads o₃ t₃ (length o₂) (neg_v (trit_at o₂ t₂)) → Reads o₃ t₃ n (negative_by v (trit_at ho ht))
  negative_done d = record {
    row = d.row;
    size = d.size ∙ m.size ∙ ap length e ∙ l;
    trits = d.trits ∙ ap neg_v times ∙ negative_trits (trit_at ho ht) v;
  }

  pub scaled_done : {o₃ t₃ o₄ t₄ : List ℕ} (c : Vector) → Reads o₃ t₃ (length o₂) (zip_v mul_t (trit_at o₂ t₂) c)
      → Reads o₄ t₄ (length o₃) (zip_v add_t (trit_at o₃ t₃) (trit_at ho ht))
      → Reads o₄ t₄ n (scaled_by v c (trit_at ho ht))
  scaled_done c d s = record {
    row = s.row;
    size = s.size ∙ d.size ∙ m.size ∙ ap length e ∙ l;
    trits = s.trits ∙ ap (λ (u : Vector). zip_v add_t u (trit_at ho ht)) (d.trits ∙ ap (λ (u : Vector). zip_v mul_t u c) times)
        ∙ scaled_trits (trit_at ho ht) v c;
  }

-- ---- they are 0 where the row is

pub scaled_past : (b c h : Vector) (q : ℕ) → h q ≡ t0 → t0 ≡ scaled_by b c h q
scaled_past b c h q e = law2 (λ x y. t0) (λ x y. mul_t (add_t t1 (mul_t x y)) t0) tt (b q) (c q) ∙ ap (mul_t (add_t t1 (mul_t (b q) (c q)))) (sym e)

pub negative_past : (v h : Vector) (q : ℕ) → h q ≡ t0 → t0 ≡ negative_by v h q
negative_past v h q e = law2 (λ x y. t0) (λ x y. neg_t (mul_t x t0)) tt (v q) (v q) ∙ ap (λ (x : Trit). neg_t (mul_t (v q) x)) (sym e)

pub half_past : (x : Half) (h : Vector) (q : ℕ) → h q ≡ t0 → t0 ≡ half_of x h q
half_past (Scaled b c) h q e = scaled_past (trit_at b.ones.now b.twos.now) (trit_at c.ones.now c.twos.now) h q e
half_past (Negative v) h q e = negative_past (trit_at v.ones.now v.twos.now) h q e
half_past Same h q e = sym e

-- ---- row after row

module _ (a : ℕ) (L R A : Matrix) where
  module _ (m j q : ℕ) where
    pub halves_low : j < a + a → halves_in a m L R A j q ≡ A j q
    unfolding halves_in
    halves_low h = ap (λ (s : Bool). cond (s && ltb j (a + m + (a + m))) (cond (eqb (j % 2) 0) (L (j / 2 - a) q) (R (j / 2 - a) q)) (A j q))
        (lt-leb (a + a) j h)

    pub halves_high : a + m + (a + m) ≤ j → halves_in a m L R A j q ≡ A j q
    unfolding halves_in
    halves_high h =
        ap (λ (s : Bool). cond (leb (a + a) j && s) (cond (eqb (j % 2) 0) (L (j / 2 - a) q) (R (j / 2 - a) q)) (A j q)) (le-ltb j (a + m + (a + m)) h)
        ∙ ap (λ (s : Bool). cond s (cond (eqb (j % 2) 0) (L (j / 2 - a) q) (R (j / 2 - a) q)) (A j q)) (and-false (leb (a + a) j))

    halves_mid : a + a ≤ j → j < a + m + (a + m) → halves_in a m L R A j q ≡ cond (eqb (j % 2) 0) (L (j / 2 - a) q) (R (j / 2 - a) q)
    unfolding halves_in
    halves_mid h l = rw (le-leb (a + a) j h, lt-ltb j (a + m + (a + m)) l)

  -- a left half, and a right half
  pub halves_left : (m i q : ℕ) → i < m → halves_in a m L R A (a + i + (a + i)) q ≡ L i q
  halves_left m i q h =
      let e : (a + i + (a + i)) / 2 - a ≡ i = omega arith in
      halves_mid m (a + i + (a + i)) q (omega arith) (omega arith)
      ∙ ap (λ (s : Bool). cond s (L ((a + i + (a + i)) / 2 - a) q) (R ((a + i + (a + i)) / 2 - a) q)) (eq-eqb ((a + i + (a + i)) % 2) 0 (omega arith))
      ∙ ap (λ (n : ℕ). L n q) e

  pub halves_right : (m i q : ℕ) → i < m → halves_in a m L R A (a + i + (a + i) + 1) q ≡ R i q
  halves_right m i q h =
      let e : (a + i + (a + i) + 1) / 2 - a ≡ i = omega arith in
      halves_mid m (a + i + (a + i) + 1) q (omega arith) (omega arith)
      ∙ ap (λ (s : Bool). cond s (L ((a + i + (a + i) + 1) / 2 - a) q) (R ((a + i + (a + i) + 1) / 2 - a) q))
      (ne_eqb ((a + i + (a + i) + 1) % 2) 0 (λ z. omega arith))
      ∙ ap (λ (n : ℕ). R n q) e

  pub halves_none : A ≡ halves_in a 0 L R A
  halves_none = fun_ext (λ j. fun_ext (λ q. by j q (dec_lt j (a + a))))
    where
      by : (j q : ℕ) → Dec (j < a + a) → A j q ≡ halves_in a 0 L R A j q
      by j q (yes l) = sym (halves_low 0 j q l)
      by j q (no f) = sym (halves_high 0 j q (omega arith))

  pub halves_next : (i : ℕ) (l r : Vector) → l ≡ L i → r ≡ R i
      → put_row (a + i + (a + i) + 1) r (put_row (a + i + (a + i)) l (halves_in a i L R A)) ≡ halves_in a (i + 1) L R A
  halves_next i l r e f = fun_ext (λ j. fun_ext (λ q. by j q (ℕ_discrete j (a + i + (a + i) + 1)) (ℕ_discrete j (a + i + (a + i)))))
    where
      n : ℕ
      n = a + i + (a + i)

      rest : (j q : ℕ) → (j ≡ n + 1 → ⊥) → (j ≡ n → ⊥) → Dec (j < a + a) → Dec (j < n) → halves_in a i L R A j q ≡ halves_in a (i + 1) L R A j q
      rest j q f g (yes h) d = halves_low i j q h ∙ sym (halves_low (i + 1) j q h)
      rest j q f g (no h) (yes d) = halves_mid i j q (omega arith) (omega arith) ∙ sym (halves_mid (i + 1) j q (omega arith) (omega arith))
      rest j q f g (no h) (no d) = halves_high i j q (omega arith) ∙ sym (halves_high (i + 1) j q (omega arith))

      by : (j q : ℕ) → Dec (j ≡ a + i + (a + i) + 1) → Dec (j ≡ a + i + (a + i))
          → put_row (a + i + (a + i) + 1) r (put_row (a + i + (a + i)) l (halves_in a i L R A)) j q ≡ halves_in a (i + 1) L R A j q
      by j q (yes g) d =
          rw (eq-eqb j (a + i + (a + i) + 1) g) (ap (λ (v : Vector). v q) f ∙ sym (halves_right (i + 1) i q (omega arith))
          ∙ ap (λ (k : ℕ). halves_in a (i + 1) L R A k q) (sym g))
      by j q (no g) (yes d) =
          rw (ne_eqb j (a + i + (a + i) + 1) g, eq-eqb j (a + i + (a + i)) d)
          (ap (λ (v : Vector). v q) e ∙ sym (halves_left (i + 1) i q (omega arith)) ∙ ap (λ (k : ℕ). halves_in a (i + 1) L R A k q) (sym d))
      by j q (no g) (no d) =
          rw (ne_eqb j (a + i + (a + i) + 1) g, ne_eqb j (a + i + (a + i)) d) (rest j q g d (dec_lt j (a + a)) (dec_lt j n))

-- a turn of a loop that makes both halves of row a + i
pub halves_turn : {o t o₁ t₁ o₂ t₂ : List ℕ} {r w : ℕ} (a : ℕ) (L R A : Matrix) {i : ℕ} {l s : Vector} (m n : ℕ) → Grid o t r w (halves_in a i L R A)
    → m ≡ a + i + (a + i) → n ≡ a + i + (a + i) + 1 → l ≡ L i → s ≡ R i
    → Grid o₁ t₁ r w (put_row m l (matrix_at w o t)) → Grid o₂ t₂ r w (put_row n s (matrix_at w o₁ t₁)) → Grid o₂ t₂ r w (halves_in a (i + 1) L R A)
halves_turn {w = w} a L R A {i} {l} {s} m n g em en e f g₁ g₂ =
    grid_to g₂
    (ap₂ (λ (k : ℕ) (B : Matrix). put_row k s B) en (g₁.cells ∙ ap₂ (λ (k : ℕ) (B : Matrix). put_row k l B) em g.cells) ∙ halves_next a L R A i l s e f)
