-- A text with no key number above 255 prints what it printed when 255 was the largest (request C-15). Assumes nothing.
use mathlib.Core.Path.{◌≡◌, refl, sym, ap, ◌∙◌}
use mathlib.Core.List.{List, [], ◌∷◌, ◌++◌}
use Prim.Native.Nat.{ℕ, ◌≤◌}
use native.Mathlib.Omega.{arith}
use Rattle.text.specs.Forms.{Line, line_of}
use Rattle.text.specs.Answers.{header}
use Rattle.text.specs.AsBefore.{key_number_of, NoKeyBetween, NoKeyAbove}
use Rattle.text.proofs.Lowered.{line_lowered}
use Rattle.held_key.specs.Held.{most_key_number}
use Rattle.held_key.specs.Load.{Holding}
use Rattle.text_line.specs.Answer.{line_prints_under, line_kept_under}
use Rattle.text_line.proofs.Bounds.{prints_either, kept_either, number_kept}
use Rattle.text_lines.specs.Print.{lines_of, answers_under, no_key, prints_under, prints}

module _ (old new : ℕ) (h : old ≤ new) where
  -- lines, whatever is held, if its number is not above the lower bound either: a line prints alike, leaves alike, the rest follows, and it is read alike
  answers_lowered : (kept : Holding) → kept.held.number ≤ old → (lines : List (List ℕ)) → NoKeyBetween old new lines
      → answers_under new kept lines ≡ answers_under old kept lines
  unfolding answers_under
  answers_lowered kept z [] y = refl
  answers_lowered kept z (line ∷ rest) y =
      let l = line_of new line in
      let low = y.0 in
      let high : key_number_of l ≤ new = omega (arith, low) in
      ap (λ (x : List ℕ). x ++ answers_under new (line_kept_under new kept l) rest) (prints_either new old kept (omega arith) z l high low)
      ∙ ap (λ (x : Holding). line_prints_under old kept l ++ answers_under new x rest) (kept_either new old kept (omega arith) z l high low)
      ∙ ap (λ (x : List ℕ). line_prints_under old kept l ++ x) (answers_lowered (line_kept_under old kept l) (number_kept old kept z l low) rest y.1)
      ∙ ap (λ (x : Line). line_prints_under old kept x ++ answers_under old (line_kept_under old kept x) rest) (sym ((line_lowered old new h line).same low))

  -- a whole text
  pub prints_lowered : (text : List ℕ) → NoKeyBetween old new (lines_of text) → prints_under new text ≡ prints_under old text
  unfolding prints_under no_key
  prints_lowered text y = ap (λ (x : List ℕ). header ++ x) (answers_lowered no_key (omega arith) (lines_of text) y)

between : (old new : ℕ) (lines : List (List ℕ)) → NoKeyAbove old lines → NoKeyBetween old new lines
between old new [] y = tt
between old new (line ∷ rest) y = (y.0 new, between old new rest y.1)

-- "In an input with no key number above 255 every line has its old answer."
pub prints_as_before : (text : List ℕ) → NoKeyAbove 255 (lines_of text) → prints text ≡ prints_under 255 text
prints_as_before text y = prints_lowered 255 most_key_number (omega arith) text (between 255 most_key_number (lines_of text) y)
