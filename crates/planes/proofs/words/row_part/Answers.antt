-- The part is row i where the plane has as many words as the rows take and there is such a row; else it is empty, as `row_part` says of each case.
-- Assumes nothing.
use Prim.Native.Nat.{ℕ, ◌+◌, ◌-◌, ◌*◌, ◌≤◌, ◌<◌}
use mathlib.Core.Path.{◌≡◌, ap, ◌∙◌}
use mathlib.Core.List.{List}
use native.Mathlib.Omega.{arith}
use native.Mathlib.Nat.{mul-le-mul_right}
use lib.ListN.{length, take, drop}
use Rattle.trits.proofs.Matrix.{row_le, part_wrong, part_none, part_there}
use Rattle.planes.proofs.words.row_part.Goals as goal
use Rattle.planes.proofs.words.row_part.Goals.{then-plane-rows-via-then-plane-rows, then-plane-rows-via-else-plane-rows+then-i-rows}

pub overflow_mul-rows : goal.overflow_mul-rows
overflow_mul-rows c =
    omega (arith, mul-le-mul_right c.args.words c.requires.0)

pub returns-then-plane-rows : goal.returns-then-plane-rows
returns-then-plane-rows c =
    elim c.then-plane-rows.branch [
      | then-plane-rows-via-then-plane-rows w ↦ part_wrong _ _ _ _ w.if-plane-rows.true
      | then-plane-rows-via-else-plane-rows+then-i-rows w ↦ part_none _ _ _ _ w.if-i-rows.true
    ]

-- the row ends within the plane
within : (plane : List ℕ) (rows words i : ℕ) → length plane ≡ rows * words → i < rows → i * words + words ≤ length plane
within plane rows words i e h = omega (arith, row_le words {i = i} {m = rows} h)

pub overflow_mul-a : goal.overflow_mul-a
overflow_mul-a c =
    let a = c.args in
    omega (arith, within a.plane.now a.rows a.words a.i c.if-plane-rows.false (omega arith))

pub overflow_add-result : goal.overflow_add-result
overflow_add-result c =
    let a = c.args in
    omega (arith, within a.plane.now a.rows a.words a.i c.if-plane-rows.false (omega arith))

pub offset_bounds-plane-a : goal.offset_bounds-plane-a
offset_bounds-plane-a c =
    let a = c.args in
    omega (arith, within a.plane.now a.rows a.words a.i c.if-plane-rows.false (omega arith))

pub slice_bounds-result-end-2 : goal.slice_bounds-result-end-2
slice_bounds-result-end-2 c =
    let a = c.args in
    omega (arith, within a.plane.now a.rows a.words a.i c.if-plane-rows.false (omega arith))

pub returns : goal.returns
returns c =
    let a = c.args in
    let k : a.i * a.words + a.words - a.i * a.words ≡ a.words = omega arith in
    ap (λ (n : ℕ). take n (drop (a.i * a.words) a.plane.now)) k
    ∙ part_there a.plane.now a.rows a.words a.i c.if-plane-rows.false (omega arith)
