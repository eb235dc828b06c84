-- What the two passes of a build leave (02, C-17, "Clear upwards at the end"). Assumes nothing.
use Rattle.std.specs.Prelude.{◌≡◌, List, ℕ, ◌<◌, length, get_or}
use Rattle.trits.specs.Trit.{t0, t1, put_v, dot_v}
use Rattle.matrix.specs.Linear.{Vector, Matrix, zeros, column}

-- v, read at n places, is a combination of the r rows of A: x 0 times row 0, x 1 times row 1, .. added up
abbrev pub Combines : ℕ → ℕ → Matrix → Vector → Type 0
Combines r n A v = (x : Vector) × ((q : ℕ) → q < n → dot_v x (column A q) r ≡ v q)

-- the r rows of A and those of B span the same: each row of the one is a combination of the rows of the other
pub record SameSpan (r n : ℕ) (A B : Matrix) : Type 0 where
  pub forth : (i : ℕ) → i < r → Combines r n A (B i)
  pub back : (i : ℕ) → i < r → Combines r n B (A i)

-- after the first pass: the rows of A span what those of H span, and the kept columns, at the places ps, have 1 on the diagonal and 0 below it
pub record Lowered (r n : ℕ) (H A : Matrix) (ps : List ℕ) : Type 0 where
  pub span : SameSpan r n H A
  pub one : (c : ℕ) → c < length ps → A c (get_or ps c 0) ≡ t1
  pub none : (c i : ℕ) → c < length ps → c < i → i < r → A i (get_or ps c 0) ≡ t0

-- after the last pass: the span is that of H still, and the kept columns are those of the identity
pub record Reduced (r n : ℕ) (H A : Matrix) (ps : List ℕ) : Type 0 where
  pub span : SameSpan r n H A
  pub unit : (c i : ℕ) → c < length ps → i < r → A i (get_or ps c 0) ≡ put_v zeros c t1 i
