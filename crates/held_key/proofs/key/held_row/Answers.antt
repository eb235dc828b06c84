-- A sound state that has stored row i hands out the part that `row_part` finds.
-- Assumes nothing.
use Prim.Native.Nat.{ℕ}
use mathlib.Core.Path.{◌≡◌, sym, ap, ◌∙◌}
use mathlib.Core.Bool.{true}
use native.Mathlib.Omega.{arith}
use Rattle.trits.specs.Rows.{row_part}
use Rattle.held_key.specs.Held.{sound, row_words}
use Rattle.held_key.proofs.Sizes.{sizes}
use Rattle.held_key.proofs.Stretch.{row_unsound, row_missing, row_stored}
use Rattle.held_key.proofs.key.held_row.Goals as goal

pub returns-in_default : goal.returns-in_default
returns-in_default c =
    row_unsound _ _ _ c.in_default.ensures

pub returns-then-i-held : goal.returns-then-i-held
returns-then-i-held c =
    let a = c.args in
    let is_sound : sound a.held ≡ true = sym (ap sound c.in-Some.ensures) ∙ c.in-Some.begun.sound in
    row_missing a.held a.plane.now a.i is_sound (omega (arith, sizes a.held is_sound))

pub row_part-requires : goal.row_part-requires
row_part-requires c =
    let a = c.args in
    let is_sound : sound a.held ≡ true = sym (ap sound c.in-Some.ensures) ∙ c.in-Some.begun.sound in
    omega (arith, c.row_words.ensures, ap row_words c.in-Some.ensures, sizes a.held is_sound)

pub returns : goal.returns
returns c =
    let a = c.args in
    let is_sound : sound a.held ≡ true = sym (ap sound c.in-Some.ensures) ∙ c.in-Some.begun.sound in
    c.row_part.ensures
    ∙ ap (λ (w : ℕ). row_part a.plane.now a.held.k w a.i) (c.row_words.ensures ∙ ap row_words c.in-Some.ensures)
    ∙ row_stored a.held a.plane.now a.i is_sound (omega arith)
