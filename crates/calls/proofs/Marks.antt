-- Flags that say which places stand in an order, and the test for a zero. Assumes nothing.
use mathlib.Core.Path.{◌≡◌, refl, sym, ap, ◌∙◌}
use mathlib.Core.Bool.{Bool, true, false, not, ◌&&◌, ◌||◌, cond}
use mathlib.Core.List.{List, [], ◌∷◌}
use Prim.Native.Nat.{ℕ, zero, suc, ◌+◌, ◌≤◌, ◌<◌}
use native.Mathlib.Nat.{zero-add}
use native.Mathlib.Numerals.{add-one}
use native.Mathlib.Decide.{dec_lt, ℕ_discrete}
use native.Mathlib.Omega.{arith}
use borrow.Author.Tests.{eq-eqb, ne_eqb, lt-ltb, le-ltb}
use lib.Dec.{eqb, ltb}
use lib.ListN.{length, get_or, set, take, replicate, get_or-replicate, length-set}
use lib.Seq.{take-suc, take_all, get_or-set_same, get_or-set_other}
use Rattle.std.specs.List.{list_any, list_all, range_with_len}
use Rattle.std.proofs.lemmas.List.Folds.{list_any_more, list_all_more}
use Rattle.std.proofs.lemmas.List.FromFn.{length-range_with_len, get_or-range_with_len}
use Rattle.trits.specs.Trit.{Trit, t0, t1, t2, any_to, is_set, number}
use Rattle.trits.proofs.Tests.{any_cong}
use Rattle.matrix.specs.Linear.{Vector, elem}
use Rattle.matrix.specs.Orders.{is_order}
use Rattle.matrix.proofs.Places.{elem_append}
use Rattle.calls.specs.Steps.{flag, Marked, mark_place, all_set}
use Rattle.scheme.specs.Secret.{has_zero}

-- ---- marks

pub marked_none : (n m : ℕ) → n ≤ m → Marked n [] (replicate m 0)
marked_none n m h = record { place = λ v l. get_or-replicate m v 0 0 (omega arith) }

pub mark_in : (v n : ℕ) (flags : List ℕ) → v < n → set flags v 1 ≡ mark_place v n flags
unfolding mark_place
mark_in v n flags h = sym (ap (λ (t : Bool). cond t (set flags v 1) flags) (lt-ltb v n h))

pub mark_out : (v n : ℕ) (flags : List ℕ) → n ≤ v → flags ≡ mark_place v n flags
unfolding mark_place
mark_out v n flags h = sym (ap (λ (t : Bool). cond t (set flags v 1) flags) (le-ltb v n h))

pub mark_length : (v n : ℕ) (flags : List ℕ) → length (mark_place v n flags) ≡ length flags
unfolding mark_place
mark_length v n flags = by (ltb v n)
  where
    by : (t : Bool) → length (cond t (set flags v 1) flags) ≡ length flags
    by true = length-set flags v 1
    by false = refl

or-false : (b : Bool) → (b || false) ≡ b
or-false true = refl
or-false false = refl

or-true : (b : Bool) → (b || true) ≡ true
or-true true = refl
or-true false = refl

elem_one : (v x : ℕ) (b : Bool) → eqb v x ≡ b → elem v (x ∷ []) ≡ b
elem_one v x b e = ap (λ (t : Bool). t || false) e ∙ or-false b

pub marked_turn : {n : ℕ} (l : List ℕ) {flags f : List ℕ} (i : ℕ) → Marked n (take i l) flags → i < length l → n ≤ length flags
    → f ≡ mark_place (get_or l i 0) n flags → Marked n (take (i + 1) l) f
marked_turn {n} l {flags} {f} i m h b e =
    record { place = λ v k. ap (λ (z : List ℕ). get_or z v 0) e ∙ by v k (ℕ_discrete v (get_or l i 0)) ∙ sym (ap flag (more v)) }
  where
    x : ℕ
    x = get_or l i 0

    more : (v : ℕ) → elem v (take (i + 1) l) ≡ (elem v (take i l) || elem v (get_or l i 0 ∷ []))
    more v = ap (λ (k : ℕ). elem v (take k l)) (add-one i) ∙ ap (elem v) (take-suc l i 0 h) ∙ elem_append v (take i l) (get_or l i 0 ∷ [])

    other : (v : ℕ) → v < n → (v ≡ get_or l i 0 → ⊥) → Dec (get_or l i 0 < n) → get_or (mark_place (get_or l i 0) n flags) v 0 ≡ get_or flags v 0
    other v k g (yes d) = ap (λ (z : List ℕ). get_or z v 0) (sym (mark_in (get_or l i 0) n flags d)) ∙ get_or-set_other flags (get_or l i 0) v 1 0 g
    other v k g (no d) = ap (λ (z : List ℕ). get_or z v 0) (sym (mark_out (get_or l i 0) n flags (omega arith)))

    by : (v : ℕ) → v < n → Dec (v ≡ get_or l i 0) → get_or (mark_place (get_or l i 0) n flags) v 0 ≡ flag (elem v (take i l) || elem v (get_or l i 0 ∷ []))
    by v k (yes g) =
        ap (λ (z : List ℕ). get_or z v 0) (sym (mark_in (get_or l i 0) n flags (omega arith)))
        ∙ ap (λ (q : ℕ). get_or (set flags (get_or l i 0) 1) q 0) g ∙ get_or-set_same flags (get_or l i 0) 1 0 (omega arith)
        ∙ sym (ap (λ (t : Bool). flag (elem v (take i l) || t)) (elem_one v (get_or l i 0) true (eq-eqb v (get_or l i 0) g))
        ∙ ap flag (or-true (elem v (take i l))))
    by v k (no g) =
        other v k g (dec_lt (get_or l i 0) n) ∙ m.place v k
        ∙ sym (ap (λ (t : Bool). flag (elem v (take i l) || t)) (elem_one v (get_or l i 0) false (ne_eqb v (get_or l i 0) g))
        ∙ ap flag (or-false (elem v (take i l))))

pub marked_all : {n : ℕ} (l : List ℕ) {flags : List ℕ} (i : ℕ) → Marked n (take i l) flags → i ≡ length l → Marked n l flags
marked_all l i m e = record { place = λ v k. m.place v k ∙ ap (λ (z : List ℕ). flag (elem v z)) (take_all i l (omega arith)) }

unset : (b : Bool) → eqb (flag b) 0 ≡ not b
unset true = refl
unset false = refl

-- all flags are set exactly when the list is an order
pub marked_order : (n : ℕ) (l flags : List ℕ) → length l ≡ n → Marked n l flags → all_set n flags ≡ is_order n l
unfolding all_set is_order
marked_order n l flags e m =
    ap not (any_cong n (λ q. eqb (get_or flags q 0) 0) (λ q. not (elem q l)) (λ q h. ap (λ (x : ℕ). eqb x 0) (m.place q h) ∙ unset (elem q l)))
    ∙ sym (ap (λ (t : Bool). t && not (any_to (λ q. not (elem q l)) n)) (eq-eqb (length l) n e))

-- ---- the two searches

module _ {X : Type 0} (p : X → Bool) (xs : List X) (d : X) where
  any_taken : (i : ℕ) → i ≤ length xs → list_any p (take i xs) ≡ any_to (λ q. p (get_or xs q d)) i
  unfolding any_to
  any_taken zero h = refl
  any_taken (suc i) h =
      ap (λ (k : ℕ). list_any p (take k xs)) (sym (add-one i))
      ∙ list_any_more p xs i d h ∙ ap (λ (t : Bool). t || p (get_or xs i d)) (any_taken i (omega arith))

  all_taken : (i : ℕ) → i ≤ length xs → list_all p (take i xs) ≡ not (any_to (λ q. not (p (get_or xs q d))) i)
  unfolding any_to
  all_taken zero h = refl
  all_taken (suc i) h =
      ap (λ (k : ℕ). list_all p (take k xs)) (sym (add-one i))
      ∙ list_all_more p xs i d h ∙ ap (λ (t : Bool). t && p (get_or xs i d)) (all_taken i (omega arith))
      ∙ both (any_to (λ q. not (p (get_or xs q d))) i) (p (get_or xs i d))
    where
      both : (a b : Bool) → (not a && b) ≡ not (a || not b)
      both true b = refl
      both false true = refl
      both false false = refl

-- no flag below n is 0
pub all_flags : (n : ℕ) (flags : List ℕ) → n ≤ length flags → list_all (λ x. not (eqb x 0)) (take n flags) ≡ all_set n flags
unfolding all_set
all_flags n flags h =
    all_taken (λ x. not (eqb x 0)) flags 0 n h
    ∙ ap not (any_cong n (λ q. not (not (eqb (get_or flags q 0) 0))) (λ q. eqb (get_or flags q 0) 0) (λ q k. twice (eqb (get_or flags q 0) 0)))
  where
    twice : (t : Bool) → not (not t) ≡ t
    twice true = refl
    twice false = refl

abbrev pub is_zero : Vector → ℕ → Bool
is_zero v i = not (is_set (v i))

-- one of the first m trits is 0
pub any_zero : (v : Vector) (m : ℕ) → list_any (λ i. eqb (number (v i)) 0) (range_with_len 0 m) ≡ has_zero m v
unfolding has_zero
any_zero v m =
    ap (list_any tested) (sym (take_all m places (omega (arith, length-range_with_len 0 m))))
    ∙ any_taken tested places 0 m (omega (arith, length-range_with_len 0 m))
    ∙ any_cong m (λ q. tested (get_or places q 0)) (is_zero v) (λ q h. ap tested (get_or-range_with_len 0 m q 0 h ∙ zero-add q) ∙ by (v q))
  where
    tested : ℕ → Bool
    tested i = eqb (number (v i)) 0

    places : List ℕ
    places = range_with_len 0 m

    by : (t : Trit) → eqb (number t) 0 ≡ not (is_set t)
    by t0 = refl
    by t1 = refl
    by t2 = refl
