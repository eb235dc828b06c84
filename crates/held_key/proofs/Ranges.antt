-- A chain of tests by `&&`, and the test of a range. Assumes nothing.
use mathlib.Core.Path.{◌≡◌, refl, ap, ap₂, ◌∙◌}
use mathlib.Core.Bool.{Bool, true, false, ◌&&◌, cond}
use Prim.Native.Nat.{ℕ}
use native.Mathlib.Omega.{arith}
use lib.Dec.{eqb, leb, ltb}
use borrow.Author.Tests.{le-leb, lt-leb, ltb-true, ltb-false, eqb-true, eqb-false}
use Rattle.std.specs.Prelude.{Option, Some}
use Rattle.std.specs.declared.cmp.Ordering.{Ordering}
use Rattle.std.specs.Ordering.{nat_cmp, is_le, partial_le, partial_lt}

-- one test more: where those before it fail it is not made
pub tested : (p t : Bool) {v : Bool} → p ≡ true → v ≡ t → v ≡ (p && t)
tested p t e f = rw e f

pub untested : (p t : Bool) {v : Bool} → p ≡ false → v ≡ p → v ≡ (p && t)
untested p t e f = let g : p ≡ (p && t) = rw e in f ∙ g

pub and_assoc : (a b d : Bool) → ((a && b) && d) ≡ (a && (b && d))
and_assoc false b d = refl
and_assoc true b d = refl

-- such tests in a row, of which three are each of two bounds
pub in_a_row : (a b d e f g h k : Bool) → ((((a && (b && d)) && e) && (f && g)) && (h && k)) ≡ (a && (b && (d && (e && (f && (g && (h && k)))))))
in_a_row false b d e f g h k = refl
in_a_row true false d e f g h k = refl
in_a_row true true false e f g h k = refl
in_a_row true true true false f g h k = refl
in_a_row true true true true false g h k = refl
in_a_row true true true true true false h k = refl
in_a_row true true true true true true h k = refl

told_le : (a x : ℕ) → is_le (nat_cmp a x) ≡ leb a x
told_le a x = by (ltb a x) refl (eqb a x) refl
  where
    by : (l : Bool) → ltb a x ≡ l → (q : Bool) → eqb a x ≡ q → is_le (nat_cmp a x) ≡ leb a x
    by true e q f = let h = ltb-true a x e in rw (e, le-leb a x (omega arith))
    by false e true f = let h = eqb-true a x f in rw (e, f, le-leb a x (omega arith))
    by false e false f =
        let h = ltb-false a x e in
        let g = eqb-false a x f in
        rw (e, f, lt-leb a x (omega arith))

abbrev compared : ℕ → ℕ → Option Ordering
compared x y = Some (nat_cmp x y)

-- what `contains` answers at `a..=b`
pub contained : (s e x : ℕ) (spent : Bool) {r : Bool} (a b : ℕ)
    → r ≡ (partial_le compared s x && cond spent (partial_lt compared x e) (partial_le compared x e))
    → s ≡ a → e ≡ b → spent ≡ false → r ≡ (leb a x && leb x b)
contained s e x spent a b h f g z =
    h ∙ ap₂ ◌&&◌ (told_le s x ∙ ap (λ (y : ℕ). leb y x) f)
    (ap (λ (t : Bool). cond t (partial_lt compared x e) (partial_le compared x e)) z ∙ told_le x e ∙ ap (leb x) g)
