-- A refused row leaves all as it was; one that passes stands from its own start on, and is counted.
-- Assumes nothing.
use Prim.Native.Nat.{ℕ}
use mathlib.Core.Path.{sym, ap, ◌∙◌}
use native.Mathlib.Omega.{arith}
use Rattle.trits.specs.Rows.{put_words}
use Rattle.trits.proofs.Refusals.{exit_kept, exit_new}
use Rattle.held_key.specs.Held.{row_words}
use Rattle.held_key.specs.Store.{stored_held, next_held}
use Rattle.held_key.proofs.Outcomes.{handed_on, refused_positive, state_stays}
use Rattle.held_key.proofs.Room.{placed, stored_passed}
use Rattle.held_key.proofs.Storing.{plane_kept, plane_put}
use Rattle.held_key.proofs.store_row.Goals as goal

pub returns-in_err-begun : goal.returns-in_err-begun
unfolding stored_held
returns-in_err-begun c =
    let e = handed_on _ _ c.from_residual.ensures.1 c.in_err-begun.ensures.refusal in
    let l = refused_positive _ c.from_residual.ensures.0 in
    (e, state_stays _ _ c.from_residual.ensures.0 ∙ exit_kept _ _ e l, plane_kept _ _ _ e l, plane_kept _ _ _ e l)

pub overflow_mul-start : goal.overflow_mul-start
overflow_mul-start c =
    let passed = stored_passed _ (sym c.in_ok-begun.ensures.refusal) in
    let p = placed passed.0 (c.row_words.ensures ∙ ap row_words c.in_ok-begun.ensures.same) in
    omega (arith, p.small)

pub put_row-requires : goal.put_row-requires
put_row-requires c =
    let passed = stored_passed _ (sym c.in_ok-begun.ensures.refusal) in
    let p = placed passed.0 (c.row_words.ensures ∙ ap row_words c.in_ok-begun.ensures.same) in
    omega (arith, p.in_ones, p.words, passed.1)

pub put_row-requires-2 : goal.put_row-requires-2
put_row-requires-2 c =
    let passed = stored_passed _ (sym c.in_ok-begun.ensures.refusal) in
    let p = placed passed.0 (c.row_words.ensures ∙ ap row_words c.in_ok-begun.ensures.same) in
    omega (arith, p.in_twos, p.words, passed.2)

pub returns : goal.returns
unfolding stored_held
returns c =
    let a = c.args in
    let z = sym c.in_ok-begun.ensures.refusal in
    let p = placed (stored_passed _ z).0 (c.row_words.ensures ∙ ap row_words c.in_ok-begun.ensures.same) in (
      c.in_ok-begun.ensures.refusal,
      c.count_row.ensures ∙ ap next_held c.in_ok-begun.ensures.same ∙ exit_new _ _ z,
      c.put_row.ensures ∙ ap (λ (x : ℕ). put_words x a.ones.now a.row.ones.now) p.start ∙ plane_put _ _ _ z,
      c.put_row-2.ensures ∙ ap (λ (x : ℕ). put_words x a.twos.now a.row.twos.now) p.start ∙ plane_put _ _ _ z,
    )
