-- The search finds a vector if there is one. Assumes nothing.
use mathlib.Core.Path.{◌≡◌, refl, sym, ap, ◌∙◌, fun_ext}
use mathlib.Core.Bool.{Bool, true, false, cond, not, true≢false}
use mathlib.Core.Logic.{◌↔◌}
use mathlib.Core.List.{List, [], ◌∷◌}
use mathlib.Core.Option.{Option, none, some}
use Prim.Native.Nat.{ℕ, ◌<◌}
use borrow.Author.Tests.{eqb-true, eqb-false}
use lib.Dec.{eqb}
use Rattle.trits.specs.Trit.{Trit, t0, t1, t2, sub_t, is_set, put_v, any_to}
use Rattle.trits.proofs.Arithmetic.{add_neg, unset_zero}
use Rattle.trits.proofs.Tests.{any_none, none_any}
use Rattle.matrix.specs.Linear.{Vector, zeros, agree, Matrix, times, elem, find, or_else, found, solve, in_span}
use Rattle.matrix.proofs.Field.{not-true, sub_zero_eq}
use Rattle.matrix.proofs.Dots.{put_same, put_other}
use Rattle.matrix.proofs.Places.{Supported, or_false_left, or_false_right, false_or_false}

pub agree_eq : (r : ℕ) (u v : Vector) → agree r u v ≡ true → (i : ℕ) → i < r → u i ≡ v i
unfolding agree
agree_eq r u v h i k =
    sub_zero_eq (u i) (v i) (unset_zero (sub_t (u i) (v i))
    (any_none r (λ i. is_set (sub_t (u i) (v i))) (not-true (any_to (λ i. is_set (sub_t (u i) (v i))) r) h) i
    k))

pub eq_agree : (r : ℕ) (u v : Vector) → ((i : ℕ) → i < r → u i ≡ v i) → agree r u v ≡ true
unfolding agree
eq_agree r u v h = ap not (none_any r (λ i. is_set (sub_t (u i) (v i))) (λ i k. ap is_set (ap (λ (x : Trit). sub_t x (v i)) (h i k) ∙ add_neg (v i))))

-- the vectors agree off the list
abbrev pub Off : List ℕ → Vector → Vector → Type 0
Off ps u w = (q : ℕ) → elem q ps ≡ false → u q ≡ w q

abbrev Good : (Vector → Bool) → List ℕ → Vector → Option Vector → Type 0
Good test ps w none = Unit {0}
Good test ps w (some u) = (test u ≡ true) × Off ps u w

good_or : (test : Vector → Bool) (ps : List ℕ) (w : Vector) (a b : Option Vector) → Good test ps w a → Good test ps w b → Good test ps w (or_else a b)
good_or test ps w none b h k = k
good_or test ps w (some u) b h k = h

good_put : (test : Vector → Bool) (ps : List ℕ) (w : Vector) (p : ℕ) (x : Trit) (o : Option Vector) → Good test ps (put_v w p x) o → Good test (p ∷ ps) w o
good_put test ps w p x none h = tt
good_put test ps w p x (some u) h =
    (h.0, λ q e. h.1 q (or_false_right (eqb q p) (elem q ps) e) ∙ put_other w p x q (eqb-false q p (or_false_left (eqb q p) (elem q ps) e)))

good : (test : Vector → Bool) (ps : List ℕ) (w : Vector) → Good test ps w (find test ps w)
unfolding find
good test [] w = go (test w) refl
  where
    go : (t : Bool) → test w ≡ t → Good test [] w (cond t (some w) none)
    go true e = (e, λ q h. refl)
    go false e = tt
good test (p ∷ ps) w =
    good_or test (p ∷ ps) w (find test ps (put_v w p t0)) _ (good_put test ps w p t0 (find test ps (put_v w p t0)) (good test ps (put_v w p t0)))
    (good_or test (p ∷ ps) w (find test ps (put_v w p t1)) _ (good_put test ps w p t1 (find test ps (put_v w p t1)) (good test ps (put_v w p t1)))
    (good_put test ps w p t2 (find test ps (put_v w p t2)) (good test ps (put_v w p t2))))

pub find_sound : (test : Vector → Bool) (ps : List ℕ) (w u : Vector) → find test ps w ≡ some u → (test u ≡ true) × Off ps u w
find_sound test ps w u h = rw h at (good test ps w)

found_left : (a b : Option Vector) → found a ≡ true → found (or_else a b) ≡ true
found_left none b h = absurd (true≢false (sym h))
found_left (some u) b h = refl

found_right : (a b : Option Vector) → found b ≡ true → found (or_else a b) ≡ true
found_right none b h = h
found_right (some u) b h = refl

pub off_put : (ps : List ℕ) (u w : Vector) (p : ℕ) → Off (p ∷ ps) u w → Off ps u (put_v w p (u p))
off_put ps u w p h q e = go (eqb q p) refl
  where
    go : (t : Bool) → eqb q p ≡ t → u q ≡ put_v w p (u p) q
    go true k = rw (eqb-true q p k) (sym (put_same w p (u p)))
    go false k = h q (false_or_false (eqb q p) (elem q ps) k e) ∙ sym (put_other w p (u p) q (eqb-false q p k))

pub find_complete : (test : Vector → Bool) (ps : List ℕ) (w u : Vector) → test u ≡ true → Off ps u w → found (find test ps w) ≡ true
unfolding find
find_complete test [] w u h k = rw (ap test (sym (fun_ext (λ q. k q refl))) ∙ h)
find_complete test (p ∷ ps) w u h k = go (u p) refl (find_complete test ps (put_v w p (u p)) u h (off_put ps u w p k))
  where
    go : (x : Trit) → u p ≡ x → found (find test ps (put_v w p (u p))) ≡ true
        → found (or_else (find test ps (put_v w p t0)) (or_else (find test ps (put_v w p t1)) (find test ps (put_v w p t2)))) ≡ true
    go t0 e f = found_left (find test ps (put_v w p t0)) _ (rw e at f)
    go t1 e f = found_right (find test ps (put_v w p t0)) _ (found_left (find test ps (put_v w p t1)) _ (rw e at f))
    go t2 e f = found_right (find test ps (put_v w p t0)) _ (found_right (find test ps (put_v w p t1)) _ (rw e at f))

pub found_some : (o : Option Vector) → found o ≡ true → (u : Vector) × (o ≡ some u)
found_some none h = absurd (true≢false (sym h))
found_some (some u) h = (u, refl)

-- v is a combination of the columns at the places listed
abbrev pub Spans : ℕ → ℕ → Matrix → List ℕ → Vector → Type 0
Spans r n H ps v = (w : Vector) × Supported ps w × ((i : ℕ) → i < r → times n H w i ≡ v i)

pub solve_sound : (r n : ℕ) (H : Matrix) (s : Vector) (ps : List ℕ) (w u : Vector) → solve r n H s ps w ≡ some u → Off ps u w
    × ((i : ℕ) → i < r → times n H u i ≡ s i)
unfolding solve
solve_sound r n H s ps w u h =
    let k = find_sound (λ u. agree r (times n H u) s) ps w u h in
    (k.1, agree_eq r (times n H u) s k.0)

pub solve_complete : (r n : ℕ) (H : Matrix) (s : Vector) (ps : List ℕ) (w u : Vector) → Off ps u w → ((i : ℕ) → i < r → times n H u i ≡ s i)
    → (u' : Vector) × (solve r n H s ps w ≡ some u')
unfolding solve
solve_complete r n H s ps w u h k =
    found_some (solve r n H s ps w) (find_complete (λ u. agree r (times n H u) s) ps w u (eq_agree r (times n H u) s k) h)

pub in_span_iff : (r n : ℕ) (H : Matrix) (ps : List ℕ) (v : Vector) → (in_span r n H ps v ≡ true) ↔ Spans r n H ps v
unfolding in_span
in_span_iff r n H ps v = (found, λ s. rw (solve_complete r n H v ps zeros s.0 s.1 s.2).1)
  where
    found : in_span r n H ps v ≡ true → Spans r n H ps v
    found h =
        let f = found_some (solve r n H v ps zeros) h in
        let k = solve_sound r n H v ps zeros f.0 f.1 in
        (f.0, k.0, k.1)
