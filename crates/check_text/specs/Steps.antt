-- What the inner functions test and ask. No rule of the paper: code is tied to it. Assumes nothing.
use Rattle.std.specs.Prelude.{◌≡◌, List, ℕ, length}
use Rattle.trits.specs.Refusal.{first}
use Rattle.shake.specs.Steps.{ForMessage}
use Rattle.held_key.specs.declared.state.Held.{Held}
use Rattle.held_key.specs.Held.{row_words}
use Rattle.held_key.specs.Steps.{Whole}
use Rattle.check_tests.specs.Check.{call_refusal}
use Rattle.check_text.specs.TextCheck.{text_lengths, text_contents}

-- all refusals but 6
unfoldable pub tested_refusal : Held → ℕ → List ℕ → List ℕ → List ℕ → List ℕ → List ℕ → List ℕ → ℕ
tested_refusal h number ones twos salt s work_ones work_twos =
    first (call_refusal h number (length ones) (length twos) (length work_ones) (length work_twos))
    (first (text_lengths h (length salt) (length s))
    (text_contents h ones twos s))

-- a whole key and packed s that were tested, a salt and a text, and working space
pub record ForJudgeText (held : Held) (ones twos salt text s wo wt : List ℕ) : Type 0 where
  pub whole : Whole held ones twos
  pub lengths : text_lengths held (length salt) (length s) ≡ 0
  pub contents : text_contents held ones twos s ≡ 0
  pub message : ForMessage salt text
  pub work_ones : length wo ≡ row_words held
  pub work_twos : length wt ≡ row_words held
