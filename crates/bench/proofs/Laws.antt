-- A row added time after time, and what planes are that the tests let pass. Assumes nothing.
use mathlib.Core.Path.{◌≡◌, sym, ap, ◌∙◌}
use mathlib.Core.List.{List}
use Prim.Native.Nat.{ℕ, ◌+◌}
use native.Mathlib.Numerals.{add-one}
use mir.Syntax.{w64}
use mir.Val.{Fits}
use borrow.Author.Tests.{eqb-true}
use lib.Dec.{eqb, lit<}
use lib.ListN.{length, get_or}
use Rattle.trits.specs.Trit.{Trit, add_t, zip_v}
use Rattle.trits.specs.Planes.{trit_at, both_set, Row, Reads}
use Rattle.trits.proofs.Refusals.{passed_refuse, passed_demand}
use Rattle.trits.proofs.Tests.{both_apart}
use Rattle.bench.specs.{added_to, sum_refusal}

-- one time more
pub added_turn : {o t p q : List ℕ} {n : ℕ} (i : ℕ) (u v : ℕ → Trit) → Reads o t n (added_to i u v) → Reads p q (length o) (zip_v add_t (trit_at o t) v)
    → Reads p q n (added_to (i + 1) u v)
unfolding added_to
added_turn i u v r f = record {
  row = f.row;
  size = f.size ∙ r.size;
  trits = f.trits ∙ ap (λ (x : ℕ → Trit). zip_v add_t x v) r.trits ∙ ap (λ (k : ℕ). added_to k u v) (sym (add-one i));
}

-- planes that pass can be added
pub record Addable (ones twos so st : List ℕ) : Type 0 where
  pub row : Row ones twos
  pub source : Row so st
  pub same : length so ≡ length ones

pub addable : (ones twos so st : List ℕ) → ((j : ℕ) → Fits w64 (get_or ones j 0)) → ((j : ℕ) → Fits w64 (get_or twos j 0)) →
    ((j : ℕ) → Fits w64 (get_or so j 0))
    → ((j : ℕ) → Fits w64 (get_or st j 0))
    → sum_refusal ones twos so st ≡ 0 → Addable ones twos so st
unfolding sum_refusal
addable ones twos so st h₁ h₂ h₃ h₄ e =
    let a = passed_demand (eqb (length twos) (length ones)) 2 _ (lit< tt) e in
    let b = passed_demand (eqb (length so) (length ones)) 2 _ (lit< tt) a.1 in
    let c = passed_demand (eqb (length st) (length ones)) 2 _ (lit< tt) b.1 in
    let d = passed_refuse (both_set ones twos) 3 _ (lit< tt) c.1 in
    let f = passed_refuse (both_set so st) 3 0 (lit< tt) d.1 in
    let s = eqb-true (length so) (length ones) b.0 in
    record {
      row = record { same = eqb-true (length twos) (length ones) a.0; apart = both_apart h₁ h₂ d.0 };
      source = record { same = eqb-true (length st) (length ones) c.0 ∙ sym s; apart = both_apart h₃ h₄ f.0 };
      same = s;
    }
