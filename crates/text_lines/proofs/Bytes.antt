-- A byte, the end of a line and the end of the text, case by case. Assumes nothing.
use mathlib.Core.Path.{◌≡◌, ap, ◌∙◌}
use mathlib.Core.List.{[]}
use Prim.Native.Nat.{ℕ, ◌+◌, ◌≤◌, ◌<◌}
use borrow.Author.Tests.{eq-eqb, ne_eqb, lt-ltb, le-ltb}
use lib.ListN.{set, take}
use Rattle.text.specs.Forms.{Line, no_form}
use Rattle.held_key.specs.Load.{Holding}
use Rattle.text_line.specs.Answer.{line_prints, line_kept, read_line}
use Rattle.text_lines.specs.Machine.{Machine, gathered, ended, longer, stepped, step_prints, finished, end_prints}

module _ (m : Machine) where
  pub gathered_long : 1024 < m.len → no_form ≡ gathered m
  unfolding gathered
  gathered_long l = rw (lt-ltb 1024 m.len l)

  pub gathered_short : m.len ≤ 1024 → read_line (take m.len m.line) ≡ gathered m
  unfolding gathered
  gathered_short l = rw (le-ltb 1024 m.len l)

  pub ended_as : {f : Line} {k : Holding} → f ≡ gathered m → k ≡ line_kept m.kept f
      → ◌≡◌ {A = Machine} (record { len = 0; line = m.line; kept = k }) (ended m)
  unfolding ended
  ended_as e q = λ i. record { len = 0; line = m.line; kept = (q ∙ ap (line_kept m.kept) e) i }

  module _ (b : ℕ) where
    pub step_end : b ≡ 10 → (ended m ≡ stepped b m) × (line_prints m.kept (gathered m) ≡ step_prints b m)
    unfolding stepped step_prints
    step_end e = (rw (eq-eqb b 10 e), rw (eq-eqb b 10 e))

    module _ (f : b ≡ 10 → ⊥) where
      pub step_none : [] ≡ step_prints b m
      unfolding step_prints
      step_none = rw (ne_eqb b 10 f)

      pub step_more : m.len < 1025 → ◌≡◌ {A = Machine} (record { len = m.len + 1; line = set m.line m.len b; kept = m.kept }) (stepped b m)
      unfolding stepped longer
      step_more l = rw (ne_eqb b 10 f, lt-ltb m.len 1025 l)

      pub step_full : 1025 ≤ m.len → m ≡ stepped b m
      unfolding stepped longer
      step_full l = rw (ne_eqb b 10 f, le-ltb m.len 1025 l)

  pub end_none : m.len ≡ 0 → (m ≡ finished m) × ([] ≡ end_prints m)
  unfolding finished end_prints
  end_none e = (rw (eq-eqb m.len 0 e), rw (eq-eqb m.len 0 e))

  pub end_some : (m.len ≡ 0 → ⊥) → (ended m ≡ finished m) × (line_prints m.kept (gathered m) ≡ end_prints m)
  unfolding finished end_prints
  end_some f = (rw (ne_eqb m.len 0 f), rw (ne_eqb m.len 0 f))
