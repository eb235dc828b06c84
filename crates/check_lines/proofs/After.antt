-- The machine after a front of some bytes, and after one byte more. Assumes nothing.
use mathlib.Core.Path.{◌≡◌, refl, sym, ap, ◌∙◌}
use mathlib.Core.List.{List, [], ◌∷◌, ◌++◌}
use Prim.Native.Nat.{ℕ, ◌+◌, ◌<◌}
use native.Mathlib.Numerals.{add-one}
use lib.ListN.{length, get_or, take}
use lib.Seq.{take-suc}
use Rattle.text_lines.specs.Machine.{Machine, machine, stepped}
use Rattle.text_lines.specs.declared.State.{State}
use Rattle.check_lines.specs.{after, Reached}

pub after_append : (xs ys : List ℕ) (m : Machine) → after (xs ++ ys) m ≡ after ys (after xs m)
unfolding after
after_append [] ys m = refl
after_append (x ∷ xs) ys m = after_append xs ys (stepped x m)

pub after_none : (m : Machine) → m ≡ after [] m
unfolding after
after_none m = refl

pub after_more : (bytes : List ℕ) (i : ℕ) (m : Machine) → i < length bytes → stepped (get_or bytes i 0) (after (take i bytes) m) ≡ after (take (i + 1) bytes) m
unfolding after
after_more bytes i m h =
    sym (ap (λ (k : ℕ). after (take k bytes) m) (add-one i)
    ∙ ap (λ (x : List ℕ). after x m) (take-suc bytes i 0 h)
    ∙ after_append (take i bytes) (get_or bytes i 0 ∷ []) m)

-- what is reached from a machine that some bytes lead to is reached from the one before them
module _ (m n : Machine) (e : (text : List ℕ) × (n ≡ after text m)) where
  pub further : (k : Machine) → (text : List ℕ) × (k ≡ after text n) → (text : List ℕ) × (k ≡ after text m)
  further k q = (e.0 ++ q.0, q.1 ∙ ap (after q.0) e.1 ∙ sym (after_append e.0 q.0 m))

  pub reached_from : (line ones twos : List ℕ) (s : State) → Reached n line ones twos s → Reached m line ones twos s
  reached_from line ones twos s q = further (machine s line ones twos) q
