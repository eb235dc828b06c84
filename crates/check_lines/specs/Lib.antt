-- The definitions that the contracts cite: the machine after some bytes, and what came of reading. Assumes nothing.
use Rattle.std.specs.Prelude.{◌≡◌, List, [], ◌∷◌, ◌++◌, ℕ, take, Option, Some, None, IfSome, Result, Ok, Err}
use Rattle.std.specs.Io.KnownBytes.{Appends, Consumes, IsAtEnd}
use Rattle.text_lines.specs.Machine.{Machine, machine, stepped, step_prints, end_prints}
use Rattle.text_lines.specs.Print.{prints}
use Rattle.text_lines.specs.declared.State.{State}
use Rattle.check_lines.specs.declared.Failure.{Failure}

-- the machine after bytes, one after another
unfoldable pub after : List ℕ → Machine → Machine
after [] m = m
after (b ∷ text) m = after text (stepped b m)

-- the state and the buffers are those after some bytes
abbrev pub Reached : Machine → List ℕ → List ℕ → List ℕ → State → Type 0
Reached m line ones twos s = (text : List ℕ) × (machine s line ones twos ≡ after text m)

-- the state and the buffers are those after these bytes; where a write failed, the buffers are those after some of them
abbrev pub TakenIn : List ℕ → Machine → List ℕ → List ℕ → List ℕ → Result State Failure → Type 0
TakenIn bytes m line ones twos (Ok s) = machine s line ones twos ≡ after bytes m
TakenIn bytes m line ones twos (Err e) = (s : State) × (count : ℕ) × (machine s line ones twos ≡ after (take count bytes) m)

-- what bytes print, one after another
unfoldable pub shown : List ℕ → Machine → List ℕ
shown [] m = []
shown (b ∷ text) m = step_prints b m ++ shown text (stepped b m)

-- bytes were taken from a reader, and what they print went to a writer, as far as what these hold is known
pub record Printed (reads reads_after writes writes_after : Option (List ℕ)) (m : Machine) (text : List ℕ) : Type 0 where
  pub taken : Consumes reads reads_after text
  pub written : Appends writes writes_after (shown text m)

-- all bytes up to there were taken, and all that they print was written
abbrev pub PrintedTo : Option (List ℕ) → Option (List ℕ) → Option (List ℕ) → Option (List ℕ) → Machine → List ℕ → List ℕ → List ℕ → State → Type 0
PrintedTo r q w v m line ones twos s = (text : List ℕ) × (machine s line ones twos ≡ after text m) × Printed r q w v m text

-- after one read: up to the state that it led to, or at the input's end up to the state that it began at; at the end no byte is left.
-- A failure says nothing of them
abbrev pub ReadAndPrinted : Option (List ℕ) → Option (List ℕ) → Option (List ℕ) → Option (List ℕ) → Machine → List ℕ → List ℕ → List ℕ → State
    → Result (Option State) Failure → Type 0
ReadAndPrinted r q w v m line ones twos start (Ok (Some s)) = PrintedTo r q w v m line ones twos s
ReadAndPrinted r q w v m line ones twos start (Ok None) = PrintedTo r q w v m line ones twos start × IsAtEnd q
ReadAndPrinted r q w v m line ones twos start (Err e) = Unit {0}

-- after all of the input
abbrev pub AllPrinted : Option (List ℕ) → Option (List ℕ) → Option (List ℕ) → Option (List ℕ) → Machine → List ℕ → List ℕ → List ℕ
    → Result State Failure → Type 0
AllPrinted r q w v m line ones twos (Ok s) = PrintedTo r q w v m line ones twos s × IsAtEnd q
AllPrinted r q w v m line ones twos (Err e) = Unit {0}

-- where the input ended, what the end of the text prints was written, or that failed; a failure before it is told as what it was
abbrev pub EndPrinted : Option (List ℕ) → Option (List ℕ) → List ℕ → List ℕ → List ℕ → Result State Failure → Result Unit Failure → Type 0
EndPrinted w v line ones twos (Ok s) (Ok u) = Appends w v (end_prints (machine s line ones twos))
EndPrinted w v line ones twos (Ok s) (Err e) = Unit {0}
EndPrinted w v line ones twos (Err d) (Ok u) = ⊥
EndPrinted w v line ones twos (Err d) (Err e) = e ≡ d

-- where no failure is told, the whole text was read, and what the definition of a whole text prints was written
abbrev pub PrintsWhole : Option (List ℕ) → Option (List ℕ) → Option (List ℕ) → Result Unit Failure → Type 0
PrintsWhole r w v (Ok u) = IfSome r (λ text. Appends w v (prints text))
PrintsWhole r w v (Err e) = Unit {0}
