-- What sizes in their ranges say of a draw's working space. Assumes nothing.
use mathlib.Core.Path.{◌≡◌, refl, ap, ◌∙◌}
use mathlib.Core.Bool.{Bool, true, false, cond}
use Prim.Native.Nat.{ℕ, ◌+◌, ◌≤◌, max}
use native.Mathlib.Omega.{arith}
use borrow.Author.Tests.{ltb-true, ltb-false}
use lib.Dec.{ltb}
use Rattle.scheme.specs.declared.sizes.Sizes.{Sizes}
use Rattle.scheme.specs.declared.sizes.Shape.{Shape}
use Rattle.scheme.specs.Sizes.{ru, rv, shape_of}
use Rattle.calls.specs.Lent.{half_words}
use Rattle.calls.specs.DrawCall.{matrix_rows, draw_work_words}
use Rattle.calls.proofs.Bounds.{Bounds, prod}

larger : (a b m : ℕ) → a ≤ m → b ≤ m → (a ≤ cond (ltb a b) b a) × (b ≤ cond (ltb a b) b a) × (cond (ltb a b) b a ≤ m)
larger a b m h g = by (ltb a b) refl
  where
    by : (t : Bool) → ltb a b ≡ t → (a ≤ cond t b a) × (b ≤ cond t b a) × (cond t b a ≤ m)
    by true e = (omega (arith, ltb-true a b e), omega arith, g)
    by false e = (omega arith, omega (arith, ltb-false a b e), h)

-- each matrix has its rows, and the words are not many
pub record Space (z : Sizes) : Type 0 where
  pub u : ru z ≤ matrix_rows z
  pub v : rv z ≤ matrix_rows z
  pub rows : matrix_rows z ≤ 8192
  pub work : draw_work_words z ≤ 1080320

pub space : (z : Sizes) → Bounds z → Space z
space z b =
    let h = b.high in
    let l = larger (ru z) (rv z) 8192 (omega arith) (omega arith) in
    let r = l.2 in
    record { u = l.0; v = l.1; rows = r; work = prod (matrix_rows z + 248) (half_words z) 8440 128 (omega (arith, r)) (omega arith) }

-- the larger number of rows, from the shape of the sizes
pub rows_are : (z : Sizes) {s : Shape} → s ≡ shape_of z → max s.ru s.rv ≡ matrix_rows z
rows_are z e = ap (λ (s : Shape). max s.ru s.rv) e ∙ by (ru z) (rv z) (ltb (ru z) (rv z)) refl
  where
    by : (a b : ℕ) (t : Bool) → ltb a b ≡ t → max a b ≡ cond t b a
    by a b true e = omega (arith, ltb-true a b e)
    by a b false e = omega (arith, ltb-false a b e)
