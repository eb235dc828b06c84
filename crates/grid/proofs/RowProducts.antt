-- A row of a grid times a lent row: the matrix after each of the functions that make it. Assumes nothing.
use mathlib.Core.Path.{◌≡◌, refl, sym, ap, ap₂, ◌∙◌, fun_ext}
use mathlib.Core.Bool.{Bool, cond}
use mathlib.Core.List.{List}
use Prim.Native.Nat.{ℕ, ◌*◌, ◌<◌}
use native.Mathlib.Decide.{ℕ_discrete}
use borrow.Author.Tests.{eq-eqb, ne_eqb}
use borrow.Rule.Slice.PartMut.{mid_of, put_mid}
use Rattle.trits.specs.Trit.{Trit, add_t, mul_t, zip_v}
use Rattle.trits.specs.Planes.{trit_at, Reads}
use Rattle.trits.specs.Rows.{matrix_at}
use Rattle.trits.proofs.Reading.{reads_to}
use Rattle.matrix.specs.Linear.{Vector, Matrix, zeros}
use Rattle.grid.specs.Steps.{Rows, Grid, put_row, join_row, join_product}
use Rattle.grid.proofs.Cells.{cell_past, grid_to}
use Rattle.grid.proofs.RowParts.{put_grid, lent_trits, put_here, put_else}

-- ---- one row multiplied

module _ {o₀ t₀ : List ℕ} {r : ℕ} (w i : ℕ) (g : Rows o₀ t₀ r w) (h : i < r) where
  pub mul_grid : {ys zs : List ℕ} {n : ℕ} (k : ℕ) (v : Vector) → k ≡ w → n ≡ k →
      Reads ys zs n (zip_v mul_t (trit_at (mid_of (i * w) k o₀) (mid_of (i * w) k t₀)) v)
      → Grid (put_mid (i * w) k o₀ ys) (put_mid (i * w) k t₀ zs) r w (put_row i (zip_v mul_t (matrix_at w o₀ t₀ i) v) (matrix_at w o₀ t₀))
  mul_grid k v e f d =
      put_grid w i g h k e f (reads_to d (ap (λ (u : Vector). zip_v mul_t u v) (lent_trits w i k g h e)))
      (λ q l. sym (ap (λ (x : Trit). mul_t x (v q)) (cell_past w o₀ t₀ i q l)))

-- ---- row t made of row i

module _ (t i : ℕ) (f : t ≡ i → ⊥) (v : Vector) (A : Matrix) where
  -- made 0, row i added, and multiplied
  copied : join_row add_t t i (put_row t zeros A) t ≡ A i
  copied =
      fun_ext (λ q.
      ap (λ (b : Bool). cond b (add_t (put_row t zeros A t q) (put_row t zeros A i q)) (put_row t zeros A t q)) (eq-eqb t t refl)
      ∙ ap₂ (λ (x y : Vector). add_t (x q) (y q)) (put_here t zeros A t refl) (put_else t zeros A i (λ e. f (sym e))))

  pub product_made : put_row t (zip_v mul_t (join_row add_t t i (put_row t zeros A) t) v) (join_row add_t t i (put_row t zeros A))
      ≡ put_row t (zip_v mul_t (A i) v) A
  product_made = fun_ext (λ k. by k (ℕ_discrete k t))
    where
      B : Matrix
      B = join_row add_t t i (put_row t zeros A)

      by : (k : ℕ) → Dec (k ≡ t) → put_row t (zip_v mul_t (B t) v) B k ≡ put_row t (zip_v mul_t (A i) v) A k
      by k (yes e) = put_here t (zip_v mul_t (B t) v) B k e ∙ ap (λ (u : Vector). zip_v mul_t u v) copied ∙ sym (put_here t (zip_v mul_t (A i) v) A k e)
      by k (no g) =
          put_else t (zip_v mul_t (B t) v) B k g
          ∙ fun_ext (λ q. ap (λ (b : Bool). cond b (add_t (put_row t zeros A k q) (put_row t zeros A i q)) (put_row t zeros A k q)) (ne_eqb k t g))
          ∙ put_else t zeros A k g ∙ sym (put_else t (zip_v mul_t (A i) v) A k g)

-- ---- and joined to row a

module _ (op : Trit → Trit → Trit) (a i t : ℕ) (v : Vector) (A : Matrix) where
  abbrev P : Vector
  P = zip_v mul_t (A i) v

  pub product_joined : (a ≡ t → ⊥) → join_row op a t (put_row t (zip_v mul_t (A i) v) A) ≡ join_product op a i t v A
  unfolding join_product
  product_joined f = fun_ext (λ k. by k (ℕ_discrete k a))
    where
      B : Matrix
      B = put_row t P A

      by : (k : ℕ) → Dec (k ≡ a) → join_row op a t B k ≡ put_row a (zip_v op (A a) P) B k
      by k (yes e) =
          fun_ext (λ q.
          ap (λ (b : Bool). cond b (op (B k q) (B t q)) (B k q)) (eq-eqb k a e)
          ∙ ap₂ (λ (x y : Vector). op (x q) (y q)) (ap B e ∙ put_else t P A a f) (put_here t P A t refl))
          ∙ sym (put_here a (zip_v op (A a) P) B k e)
      by k (no g) = fun_ext (λ q. ap (λ (b : Bool). cond b (op (B k q) (B t q)) (B k q)) (ne_eqb k a g)) ∙ sym (put_else a (zip_v op (A a) P) B k g)

  pub product_at : join_product op a i t v A a ≡ zip_v op (A a) (zip_v mul_t (A i) v)
  unfolding join_product
  product_at = put_here a (zip_v op (A a) P) (put_row t P A) a refl

  pub product_else : (k : ℕ) → (k ≡ a → ⊥) → (k ≡ t → ⊥) → join_product op a i t v A k ≡ A k
  unfolding join_product
  product_else k f g = put_else a (zip_v op (A a) P) (put_row t P A) k f ∙ put_else t P A k g

-- ---- calls one after another

module _ (w : ℕ) (o₀ t₀ : List ℕ) {o₁ t₁ o₂ t₂ : List ℕ} {r : ℕ} where
  pub made_grid : {o₃ t₃ : List ℕ} (t i : ℕ) (v : Vector) → (t ≡ i → ⊥) → Grid o₁ t₁ r w (put_row t zeros (matrix_at w o₀ t₀))
      → Grid o₂ t₂ r w (join_row add_t t i (matrix_at w o₁ t₁))
      → Grid o₃ t₃ r w (put_row t (zip_v mul_t (matrix_at w o₂ t₂ t) v) (matrix_at w o₂ t₂))
      → Grid o₃ t₃ r w (put_row t (zip_v mul_t (matrix_at w o₀ t₀ i) v) (matrix_at w o₀ t₀))
  made_grid t i v f a b c =
      grid_to c (ap (λ (B : Matrix). put_row t (zip_v mul_t (B t) v) B) (b.cells ∙ ap (join_row add_t t i) a.cells) ∙ product_made t i f v (matrix_at w o₀ t₀))

  pub product_joined_grid : (op : Trit → Trit → Trit) (a i t : ℕ) (v : Vector) → (a ≡ t → ⊥)
      → Grid o₁ t₁ r w (put_row t (zip_v mul_t (matrix_at w o₀ t₀ i) v) (matrix_at w o₀ t₀))
      → Grid o₂ t₂ r w (join_row op a t (matrix_at w o₁ t₁)) → Grid o₂ t₂ r w (join_product op a i t v (matrix_at w o₀ t₀))
  product_joined_grid op a i t v f g h = grid_to h (ap (join_row op a t) g.cells ∙ product_joined op a i t v (matrix_at w o₀ t₀) f)
