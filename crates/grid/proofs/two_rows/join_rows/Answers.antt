-- Every word of row i from word f to word v - 1 becomes what the operation makes of it and that of row j; elsewhere row j is 0 (`Making`).
-- Assumes nothing.
use Prim.Native.Nat.{ℕ, ◌*◌, ◌≤◌, ◌<◌}
use mathlib.Core.Path.{◌≡◌, sym, ◌∙◌}
use mathlib.Core.Logic.{inl, inr}
use native.Mathlib.Omega.{arith}
use Rattle.trits.specs.Trit.{zip_v}
use Rattle.trits.specs.Rows.{matrix_at}
use Rattle.grid.proofs.Cells.{cell_past, grid_to}
use Rattle.grid.proofs.Words.{making_from, own_word, other_word, joined_word, making_more, made_grid}
use Rattle.grid.proofs.Joins.{join_put, join_nothing}
use Rattle.grid.proofs.two_rows.join_rows.Goals as goal

pub loop-k-init : goal.loop-k-init
loop-k-init g c =
    let a = c.args in
    let A = matrix_at a.w a.ones.now a.twos.now in
    making_from a.f c.requires.grid c.requires.i_in (λ q h. join_nothing g.O.Operation.op g.met.O.Operation.zero a.i a.j A q (c.requires.outside q (inl h)))

pub loop-k-preserved : goal.loop-k-preserved
loop-k-preserved g c =
    let m = c.loop-k.invariant in
    let h : c.loop-k.k < c.args.w = omega arith in
    making_more m h (joined_word c.words.ensures (own_word m h) (other_word m c.args.j c.requires.apart h))

pub returns : goal.returns
returns g c =
    let a = c.args in
    let A = matrix_at a.w a.ones.now a.twos.now in
    let none : (q : ℕ) → 64 * a.v ≤ q → A a.i q ≡ zip_v g.O.Operation.op (A a.i) (A a.j) q =
    λ q h. join_nothing g.O.Operation.op g.met.O.Operation.zero a.i a.j A q (c.requires.outside q (inr h)) in
    grid_to
    (made_grid c.loop-k.invariant (λ q h l. none q (omega arith))
    (λ q h. sym (cell_past a.w a.ones.now a.twos.now a.i q h) ∙ none q (omega arith)))
    (join_put g.O.Operation.op a.i a.j A)
