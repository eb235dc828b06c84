-- The same byte by byte: what is held between two bytes, what a byte and the end of the text make of it, and what they print. Assumes nothing.
use Rattle.std.specs.Prelude.{cond, List, [], ◌∷◌, ◌++◌, ℕ, ◌+◌, eqb, ltb, set, take}
use Rattle.trits.specs.Planes.{zero_words}
use Rattle.text.specs.Forms.{Line, no_form, most_bytes}
use Rattle.held_key.specs.Load.{Holding}
use Rattle.text_line.specs.Answer.{holding, line_prints, line_kept, read_line}
use Rattle.text_lines.specs.Print.{no_key}
use Rattle.text_lines.specs.declared.State.{State}

-- the bytes of the line so far, of which a buffer has at most 1,025, and what is kept from line to line
pub record Machine : Type 0 where
  pub len : ℕ
  pub line : List ℕ
  pub kept : Holding

-- the machine of a state and the lent buffers
abbrev pub machine : State → List ℕ → List ℕ → List ℕ → Machine
machine s line ones twos = record { len = s.len; line = line; kept = holding s.held ones twos }

-- what the gathered line says: above 1,024 bytes it is none of the forms
unfoldable pub gathered : Machine → Line
gathered m = cond (ltb most_bytes m.len) no_form (read_line (take m.len m.line))

-- after the line's end
unfoldable pub ended : Machine → Machine
ended m = record { len = 0; line = m.line; kept = line_kept m.kept (gathered m) }

-- one byte more of the line; past 1,025 bytes it is as long as it can be
unfoldable pub longer : ℕ → Machine → Machine
longer b m = cond (ltb m.len 1025) (record { len = m.len + 1; line = set m.line m.len b; kept = m.kept }) m

-- a byte: byte 10 ends the line, and any other is one more of it
unfoldable pub stepped : ℕ → Machine → Machine
stepped b m = cond (eqb b 10) (ended m) (longer b m)

unfoldable pub step_prints : ℕ → Machine → List ℕ
step_prints b m = cond (eqb b 10) (line_prints m.kept (gathered m)) []

-- the end of the text: a last line without its line end counts, if it is not empty
unfoldable pub finished : Machine → Machine
finished m = cond (eqb m.len 0) m (ended m)

unfoldable pub end_prints : Machine → List ℕ
end_prints m = cond (eqb m.len 0) [] (line_prints m.kept (gathered m))

-- a text byte by byte, and then its end
unfoldable pub fed : Machine → List ℕ → List ℕ
fed m [] = end_prints m
fed m (b ∷ text) = step_prints b m ++ fed (stepped b m) text

-- the machine at the start: no line, no key
unfoldable pub started : Machine
started = record { len = 0; line = zero_words 1025; kept = no_key }

-- the state at the start
unfoldable pub no_line : State
no_line = record { len = 0; held = no_key.held }
