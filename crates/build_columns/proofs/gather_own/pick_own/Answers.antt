-- A position of the order has the place of its column (`columns_at_law`); past it there is 0.
-- Assumes nothing.
use mathlib.Core.List.{List}
use Prim.Native.Nat.{ℕ, ◌+◌, ◌<◌}
use mathlib.Core.Path.{◌≡◌, sym, ap, ◌∙◌}
use native.Mathlib.Omega.{arith}
use lib.ListN.{length, get_or}
use Rattle.gathering.proofs.Blocks.{picked_in, picked_past}
use Rattle.build_matrix.specs.Steps.{col_of}
use Rattle.build_columns.specs.Steps.{columns_in, ForPickOwn}
use Rattle.build_columns.proofs.Columns.{col_below, columns_at_law}
use Rattle.build_columns.proofs.gather_own.pick_own.Goals as goal

-- the column is one of the working words
column_in : {work order : List ℕ} {half hw c : ℕ} (p : ℕ) → ForPickOwn work order half hw → p < length order → c ≡ col_of half hw (get_or order p 0)
    → c < length work
column_in {order = order} {half} {hw} p r h e =
    omega (arith, e, col_below half hw (hw + hw) (get_or order p 0) r.half_fits (omega arith) (r.places p h), r.room)

-- the place is widened, and its column taken
column_is : (half hw : ℕ) {c q n : ℕ} → c ≡ col_of half hw q → q ≡ n → c ≡ col_of half hw n
column_is half hw e f = e ∙ ap (col_of half hw) f

pub offset_bounds-work-column : goal.offset_bounds-work-column
offset_bounds-work-column c =
    let s = c.args.places in
    omega (arith, column_in c.args.p c.requires c.if-p-places.true (column_is s.half s.hw c.column.ensures c.from.ensures), c.requires.small)

pub bounds-work-column : goal.bounds-work-column
bounds-work-column c =
    let s = c.args.places in
    column_in c.args.p c.requires c.if-p-places.true (column_is s.half s.hw c.column.ensures c.from.ensures)

pub returns-then-p-places : goal.returns-then-p-places
returns-then-p-places c =
    let a = c.args in
    let s = a.places in
    let h = c.if-p-places.true in
    ap (λ z. get_or a.work.now z 0) (column_is s.half s.hw c.column.ensures c.from.ensures ∙ sym (columns_at_law s.half s.hw s.order.now a.p h))
    ∙ sym (picked_in (λ q. get_or a.work.now q 0) (columns_in s) (length s.order.now) a.p h)

pub returns-else-p-places : goal.returns-else-p-places
returns-else-p-places c =
    let a = c.args in
    sym (picked_past (λ q. get_or a.work.now q 0) (columns_in a.places) (length a.places.order.now) a.p (omega arith))
