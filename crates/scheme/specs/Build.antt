-- The build of a key ("Building a key"; 9 and 10 of "Turned back by the input"). Assumes nothing.
use Rattle.std.specs.Prelude.{Bool, true, false, ◌&&◌, List, ℕ, zero, suc, ◌+◌, eqb, get_or, take, set}
use Rattle.trits.specs.Refusal.{demand}
use Rattle.matrix.specs.Linear.{Vector, Matrix, column, solve, or_zeros, in_span, rank, range, zeros}
use Rattle.matrix.specs.Orders.{is_order}
use Rattle.scheme.specs.Sizes.{Sizes, half, places, ru, rv, codim, sizes_fit}
use Rattle.scheme.specs.Secret.{Secret, no_zero, secret_matrix}

-- places j and l of an order are exchanged
abbrev pub swap : ℕ → ℕ → List ℕ → List ℕ
swap j l order = set (set order j (get_or order l 0)) l (get_or order j 0)

-- how many columns are kept, and the order
pub record Arrangement : Type 0 where
  pub kept : ℕ
  pub order : List ℕ

-- the column rule, for r rows: the first j columns are kept and suc f are untried, at j up to l = j + f (so the last, where j is l, is tried too)
-- the column at j is kept if it is independent of those; otherwise j and l are exchanged, and l falls; it ends when r are kept
unfoldable pub arrange : ℕ → ℕ → Matrix → ℕ → ℕ → List ℕ → Arrangement
arrange r n H zero j order = record { kept = j; order = order }
arrange r n H (suc f) j order =
    elim (eqb j r) [
      | true ↦ record { kept = j; order = order }
      | false ↦
          elim (in_span r n H (take j order) (column H (get_or order j 0))) [
            | true ↦ arrange r n H f j (swap j (j + f) order)
            | false ↦ arrange r n H f (suc j) order
          ]
    ]

-- from the start: no column is kept, and all n are untried
unfoldable pub arranged : ℕ → ℕ → Matrix → List ℕ → Arrangement
arranged r n H order = arrange r n H n 0 order

-- row i of R as it is kept, which is its column i: what each kept column counts in the column at place r + i
unfoldable pub row_of_r : ℕ → ℕ → Matrix → List ℕ → ℕ → Vector
row_of_r r n H p i j = or_zeros (solve r n H (column H (get_or p (r + i) 0)) (take r p) zeros) (get_or p j 0)

-- what a build is given in order: sizes in their ranges, c nowhere 0, a starting order of the n places
unfoldable pub build_fits : Sizes → Secret → List ℕ → Bool
build_fits z s start = sizes_fit z && (no_zero (half z) s.c && is_order (places z) start)

-- refused 9 where H_U lacks rank, then 10 where H_V does; 0 where nothing is refused
unfoldable pub build_refusal : Sizes → Secret → ℕ
build_refusal z s =
    demand (eqb (rank (ru z) (half z) s.hu (range (half z))) (ru z)) 9
    (demand (eqb (rank (rv z) (half z) s.hv (range (half z))) (rv z)) 10
    0)

-- released: the final order p
abbrev pub key_order : Sizes → Secret → List ℕ → List ℕ
key_order z s start = (arranged (codim z) (places z) (secret_matrix z s) start).order

-- and R, kept as k rows of n-k trits
abbrev pub key_row : Sizes → Secret → List ℕ → ℕ → Vector
key_row z s start = row_of_r (codim z) (places z) (secret_matrix z s) (key_order z s start)
