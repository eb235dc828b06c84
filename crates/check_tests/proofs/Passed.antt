-- What the tests of a check have shown where none of them applied. Assumes nothing.
use mathlib.Core.Path.{◌≡◌, sym, ap, ◌∙◌}
use mathlib.Core.Bool.{true}
use mathlib.Core.List.{List}
use Prim.Native.Nat.{ℕ, ◌<◌}
use lib.Dec.{eqb, lit<}
use lib.ListN.{length}
use borrow.Author.Tests.{eqb-true}
use Rattle.std.specs.Prelude.{Result, Ok, Err, IfOk}
use Rattle.trits.specs.Planes.{words_for}
use Rattle.trits.specs.Refusal.{planes_refusal}
use Rattle.trits.specs.declared.refusal.Refusal.{Refusal}
use Rattle.trits.proofs.Refusals.{passed_refuse, passed_demand, passed_first}
use Rattle.packed.specs.Packed.{bytes_for, packed_row, packed_refusal}
use Rattle.packed.proofs.RoundTrip.{one_form}
use Rattle.held_key.specs.declared.state.Held.{Held}
use Rattle.held_key.specs.Held.{sound, row_trits, row_words, key_words}
use Rattle.check_tests.specs.Check.{Check, check_refusal, check_refusal_under, PackedCheck, check_packed_refusal, check_packed_refusal_under}
use Rattle.check_tests.specs.Check.{call_refusal, call_refusal_under, planes_lengths, planes_contents, planes_contents_under, packed_lengths, packed_contents}
use Rattle.check_tests.specs.Check.{packed_contents_under}
use Rattle.held_key.specs.Steps.{Whole}

pub record Called (h : Held) (number ones twos wo wt : ℕ) : Type 0 where
  pub is_sound : sound h ≡ true
  pub all_rows : h.rows ≡ h.k
  pub named : number ≡ h.number
  pub ones_are : ones ≡ key_words h
  pub twos_are : twos ≡ key_words h
  pub work_ones : wo ≡ row_words h
  pub work_twos : wt ≡ row_words h

pub called : (h : Held) (number ones twos work_ones work_twos : ℕ) → call_refusal h number ones twos work_ones work_twos ≡ 0
    → Called h number ones twos work_ones work_twos
unfolding call_refusal_under
called h number ones twos wo wt e =
    let a = passed_refuse (eqb h.begun 0) 20 _ (lit< tt) e in
    let b = passed_demand (sound h) 1 _ (lit< tt) a.1 in
    let c = passed_demand (eqb h.rows h.k) 20 _ (lit< tt) b.1 in
    let d = passed_demand (eqb number h.number) 22 _ (lit< tt) c.1 in
    let f = passed_demand (eqb ones (key_words h)) 2 _ (lit< tt) d.1 in
    let g = passed_demand (eqb twos (key_words h)) 2 _ (lit< tt) f.1 in
    let i = passed_demand (eqb wo (row_words h)) 2 _ (lit< tt) g.1 in
    let j = passed_demand (eqb wt (row_words h)) 2 0 (lit< tt) i.1 in
    record {
      is_sound = b.0;
      all_rows = eqb-true _ _ c.0;
      named = eqb-true _ _ d.0;
      ones_are = eqb-true _ _ f.0;
      twos_are = eqb-true _ _ g.0;
      work_ones = eqb-true _ _ i.0;
      work_twos = eqb-true _ _ j.0;
    }

pub whole : {h : Held} {number : ℕ} {ones twos : List ℕ} {wo wt : ℕ} → Called h number (length ones) (length twos) wo wt → Whole h ones twos
whole p = record { is_sound = p.is_sound; all_rows = p.all_rows; ones_size = p.ones_are; twos_size = p.twos_are }

-- y and s in planes have their lengths
pub record Fitted (h : Held) (yo yt so st : ℕ) : Type 0 where
  pub y_ones : yo ≡ row_words h
  pub y_twos : yt ≡ row_words h
  pub s_ones : so ≡ words_for h.k
  pub s_twos : st ≡ words_for h.k

pub fitted : (h : Held) (y_ones y_twos s_ones s_twos : ℕ) → planes_lengths h y_ones y_twos s_ones s_twos ≡ 0 → Fitted h y_ones y_twos s_ones s_twos
unfolding planes_lengths
fitted h yo yt so st e =
    let a = passed_demand (eqb yo (row_words h)) 2 _ (lit< tt) e in
    let b = passed_demand (eqb yt (row_words h)) 2 _ (lit< tt) a.1 in
    let c = passed_demand (eqb so (words_for h.k)) 2 _ (lit< tt) b.1 in
    let d = passed_demand (eqb st (words_for h.k)) 2 0 (lit< tt) c.1 in
    record { y_ones = eqb-true _ _ a.0; y_twos = eqb-true _ _ b.0; s_ones = eqb-true _ _ c.0; s_twos = eqb-true _ _ d.0 }

-- packed y and s have their lengths
pub packed_fitted : (h : Held) (y s : ℕ) → packed_lengths h y s ≡ 0 → (y ≡ bytes_for (row_trits h)) × (s ≡ bytes_for h.k)
unfolding packed_lengths
packed_fitted h y s e =
    let a = passed_demand (eqb y (bytes_for (row_trits h))) 2 _ (lit< tt) e in
    let b = passed_demand (eqb s (bytes_for h.k)) 2 0 (lit< tt) a.1 in
    (eqb-true _ _ a.0, eqb-true _ _ b.0)

-- the contents are right
pub contents : (h : Held) (ones twos y_ones y_twos s_ones s_twos : List ℕ) → planes_contents h ones twos y_ones y_twos s_ones s_twos ≡ 0
    → (planes_refusal ones twos h.k (row_trits h) ≡ 0) × (planes_refusal y_ones y_twos 1 (row_trits h) ≡ 0) × (planes_refusal s_ones s_twos 1 h.k ≡ 0)
unfolding planes_contents_under
contents h ones twos yo yt so st e =
    let a = passed_first (planes_refusal ones twos h.k (row_trits h)) _ e in
    let b = passed_first (planes_refusal yo yt 1 (row_trits h)) (planes_refusal so st 1 h.k) a.1 in
    (a.0, b.0, b.1)

pub packed_contents_law : (h : Held) (ones twos y s : List ℕ) → packed_contents h ones twos y s ≡ 0
    → (planes_refusal ones twos h.k (row_trits h) ≡ 0) × (packed_refusal (row_trits h) y ≡ 0) × (packed_refusal h.k s ≡ 0)
unfolding packed_contents_under
packed_contents_law h ones twos y s e =
    let a = passed_first (planes_refusal ones twos h.k (row_trits h)) _ e in
    let b = passed_first (packed_refusal (row_trits h) y) (packed_refusal h.k s) a.1 in
    (a.0, b.0, b.1)

-- a check in planes passed
pub check_passed : (c : Check) → check_refusal c ≡ 0 → let h = c.held in
    Called h c.number (length c.ones) (length c.twos) (length c.work_ones) (length c.work_twos)
    × (planes_lengths h (length c.y_ones) (length c.y_twos) (length c.s_ones) (length c.s_twos) ≡ 0)
    × (planes_contents h c.ones c.twos c.y_ones c.y_twos c.s_ones c.s_twos ≡ 0)
unfolding check_refusal_under
check_passed c e =
    let h = c.held in
    let a = passed_first (call_refusal h c.number (length c.ones) (length c.twos) (length c.work_ones) (length c.work_twos)) _ e in
    let b = passed_first (planes_lengths h (length c.y_ones) (length c.y_twos) (length c.s_ones) (length c.s_twos)) _ a.1 in
    (called h c.number (length c.ones) (length c.twos) (length c.work_ones) (length c.work_twos) a.0, b.0, b.1)

-- a packed check passed
pub check_packed_passed : (c : PackedCheck) → check_packed_refusal c ≡ 0 → let h = c.held in
    Called h c.number (length c.ones) (length c.twos) (length c.work_ones) (length c.work_twos)
    × (packed_lengths h (length c.y) (length c.s) ≡ 0) × (packed_contents h c.ones c.twos c.y c.s ≡ 0)
unfolding check_packed_refusal_under
check_packed_passed c e =
    let h = c.held in
    let a = passed_first (call_refusal h c.number (length c.ones) (length c.twos) (length c.work_ones) (length c.work_twos)) _ e in
    let b = passed_first (packed_lengths h (length c.y) (length c.s)) _ a.1 in
    (called h c.number (length c.ones) (length c.twos) (length c.work_ones) (length c.work_twos) a.0, b.0, b.1)

-- one packed form for one signature: of two packed checks that passed, with keys of as many rows, the same trits of s are the same bytes
pub checked_apart : (c d : PackedCheck) → c.held.k ≡ d.held.k → check_packed_refusal c ≡ 0 → check_packed_refusal d ≡ 0
    → ((i : ℕ) → i < c.held.k → packed_row c.s i ≡ packed_row d.s i) → c.s ≡ d.s
checked_apart c d e p q same =
    let (_, lc, gc) = check_packed_passed c p in
    let (_, ld, gd) = check_packed_passed d q in
    let size = (packed_fitted d.held (length d.y) (length d.s) ld).1 in
    let good = (packed_contents_law d.held d.ones d.twos d.y d.s gd).2 in
    one_form c.held.k c.s d.s (packed_fitted c.held (length c.y) (length c.s) lc).1 (size ∙ ap bytes_for (sym e))
    (packed_contents_law c.held c.ones c.twos c.y c.s gc).2 (ap (λ (k : ℕ). packed_refusal k d.s) e ∙ good) same

-- what was shown before the last test
pub still_readable : {A : Type 0} (tested : Result Unit Refusal) → A → IfOk tested (λ _. A)
still_readable (Ok u) a = a
still_readable (Err q) a = tt
