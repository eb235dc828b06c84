-- The row that a search finds, by the definition. Assumes nothing.
use mathlib.Core.Path.{◌≡◌, refl, sym, ap, ◌∙◌, subst}
use mathlib.Core.Bool.{Bool, true, false, not}
use Prim.Native.Nat.{ℕ, zero, suc, ◌+◌, ◌-◌, ◌≤◌, ◌<◌}
use native.Mathlib.Numerals.{add-one}
use native.Mathlib.Omega.{arith}
use lib.Dec.{eqb}
use Rattle.std.specs.Prelude.{Option, Some, None}
use Rattle.std.specs.List.{find, range_with_len}
use Rattle.std.specs.Option.{option_map}
use Rattle.trits.specs.Trit.{Trit, t0, t1, t2, number, is_set}
use Rattle.matrix.specs.Linear.{Vector, Matrix}
use Rattle.matrix.specs.Steps.{first_row, pivot_row}
use Rattle.matrix.specs.Blocks.{less_of, basis, from, pending}
use Rattle.matrix.proofs.Blocks.{pending_later}
use Rattle.pivoting.specs.Steps.{FoundRow}

-- a trit is not 0 where its number is not
set_by_number : (t : Trit) → not (eqb (number t) 0) ≡ is_set t
set_by_number t0 = refl
set_by_number t1 = refl
set_by_number t2 = refl

-- the first of the k rows from `at` on that passes a test for a trit that is not 0
found_first : (A : Matrix) (q : ℕ) (test : ℕ → Bool) (k at : ℕ) → ((i : ℕ) → at ≤ i → i < at + k → test i ≡ is_set (A i q))
    → FoundRow (find test (range_with_len at k)) (at + k) (first_row A q at k)
unfolding first_row
found_first A q test zero at f = omega arith
found_first A q test (suc k) at f = by (is_set (A at q)) refl (found_first A q test k (suc at) (λ i h l. f i (omega arith) (omega arith)))
  where
    here : test at ≡ is_set (A at q)
    here = f at (omega arith) (omega arith)

    by : (b : Bool) → is_set (A at q) ≡ b → FoundRow (find test (range_with_len (suc at) k)) (suc at + k) (first_row A q (suc at) k)
        → FoundRow (find test (range_with_len at (suc k))) (at + suc k) (first_row A q at (suc k))
    by true e g = rw (here ∙ e, e) (omega arith, refl)
    by false e g =
        let z : suc at + k ≡ at + suc k = omega arith in
        rw (here ∙ e, e, add-one at) (subst (λ (n : ℕ). FoundRow (find test (range_with_len (suc at) k)) n (first_row A q (suc at) k)) z g)

same : (o : Option ℕ) → option_map (λ (x : ℕ). x) o ≡ o
same None = refl
same (Some x) = refl

-- rows from at + k on are read as the block's rows leave them
abbrev pub now_set : ℕ → ℕ → ℕ → Matrix → ℕ → Bool
now_set r k c A i = not (eqb (number (less_of k (from c) (basis r A) (A i) (c + k))) 0)

pub found_now : (r at k c : ℕ) (A : Matrix) (o : Option ℕ) → at + k ≤ r
    → option_map (λ (x : ℕ). x) o ≡ find (now_set r k c A) (range_with_len (at + k) (r - (at + k)))
    → FoundRow o r (pivot_row r (pending at k c (basis r A) A) (c + k) (at + k))
found_now r at k c A o h e =
    let z : at + k + (r - (at + k)) ≡ r = omega arith in
    let later = pending at k c (basis r A) A in
    subst (λ (o : Option ℕ). FoundRow o r (pivot_row r later (c + k) (at + k))) (sym e ∙ same o)
    (subst (λ (n : ℕ). FoundRow (find (now_set r k c A) (range_with_len (at + k) (r - (at + k)))) n (pivot_row r later (c + k) (at + k))) z
    (found_first later (c + k) (now_set r k c A) (r - (at + k)) (at + k)
    (λ i l m. set_by_number (less_of k (from c) (basis r A) (A i) (c + k))
    ∙ ap (λ (v : Vector). is_set (v (c + k))) (sym (pending_later at k c (basis r A) A i l)))))
