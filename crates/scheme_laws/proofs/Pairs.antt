-- The pair map and its inverse, the pairs of the last part, and what the secret matrix does to a word. Assumes nothing.
use mathlib.Core.Path.{◌≡◌, refl, sym, ap, ap₂, ◌∙◌, subst}
use mathlib.Core.Bool.{Bool, true, false, cond, not, ◌&&◌, ◌||◌, and-eq-true_iff}
use Prim.Native.Nat.{ℕ, ◌+◌, ◌-◌, ◌<◌}
use native.Mathlib.Omega.{arith}
use borrow.Author.Tests.{lt-ltb, le-ltb, ltb-true, ltb-false}
use lib.Dec.{ltb}
use Rattle.trits.specs.Trit.{Trit, t0, t1, add_t, neg_t, sub_t, mul_t, is_set, dot_v, any_to}
use Rattle.trits.proofs.Tests.{any_none, none_any}
use Rattle.trits.proofs.Arithmetic.{law3, unset_zero}
use Rattle.matrix.specs.Linear.{Vector, times}
use Rattle.matrix.proofs.Field.{law4, test4, implied, not-true, not-false, sub_zero_eq}
use Rattle.matrix.proofs.Dots.{dot_cong, dot_left, dot_right, dot_split, dot_add}
use Rattle.matrix.proofs.Dimension.{Reaches}
use Rattle.scheme.specs.declared.sizes.Sizes.{Sizes}
use Rattle.scheme.specs.Sizes.{half, places, ru, rv, codim}
use Rattle.scheme.specs.Secret.{Secret, no_zero, has_zero, d_of, u_of, v_of, left_of, right_of, join, whole, secret_matrix}
use Rattle.scheme.specs.Draw.{forced}

-- the test for zeros
pub no_zero_law : (m : ℕ) (v : Vector) → no_zero m v ≡ true → (i : ℕ) → i < m → is_set (v i) ≡ true
unfolding no_zero has_zero
no_zero_law m v h i l = not-false (is_set (v i)) (any_none m (λ i. not (is_set (v i))) (not-true (any_to (λ i. not (is_set (v i))) m) h) i l)

pub zero_no : (m : ℕ) (v : Vector) → ((i : ℕ) → i < m → is_set (v i) ≡ true) → no_zero m v ≡ true
unfolding no_zero has_zero
zero_no m v h = ap not (none_any m (λ i. not (is_set (v i))) (λ i l. ap not (h i l)))

-- ---- the pair map

pub join_low : (N : ℕ) (l r : Vector) (q : ℕ) → q < N → join N l r q ≡ l q
join_low N l r q h = rw (lt-ltb q N h)

pub join_high : (N : ℕ) (l r : Vector) (q : ℕ) → join N l r (N + q) ≡ r q
join_high N l r q =
    let e : (N + q) - N ≡ q = omega arith in
    rw (le-ltb (N + q) N (omega arith), e)

module _ (z : Sizes) (s : Secret) where
  pub whole_u : (u v : Vector) (q : ℕ) → q < half z → u_of z s (whole z s u v) q ≡ u q
  whole_u u v q h =
      rw (join_low (half z) (left_of s u v) (right_of s u v) q h, join_high (half z) (left_of s u v) (right_of s u v) q)
      (law4 (λ b c u v. sub_t (mul_t (add_t t1 (mul_t b c)) (add_t u (mul_t b v))) (mul_t b (add_t (mul_t c (add_t u (mul_t b v))) v))) (λ b c u v. u) tt
      (s.b q) (s.c q) (u q) (v q))

  pub whole_v : (u v : Vector) (q : ℕ) → q < half z → v_of z s (whole z s u v) q ≡ v q
  whole_v u v q h =
      rw (join_low (half z) (left_of s u v) (right_of s u v) q h, join_high (half z) (left_of s u v) (right_of s u v) q)
      (law3 (λ c l v. sub_t (add_t (mul_t c l) v) (mul_t c l)) (λ c l v. v) tt (s.c q) (left_of s u v q) (v q))

  pub pair_left : (e : Vector) (i : ℕ) → left_of s (u_of z s e) (v_of z s e) i ≡ e i
  pair_left e i =
      law4 (λ b c l r. add_t (sub_t (mul_t (add_t t1 (mul_t b c)) l) (mul_t b r)) (mul_t b (sub_t r (mul_t c l)))) (λ b c l r. l) tt
      (s.b i) (s.c i) (e i) (e (half z + i))

  pub pair_right : (e : Vector) (i : ℕ) → right_of s (u_of z s e) (v_of z s e) i ≡ e (half z + i)
  pair_right e i =
      ap (λ (x : Trit). add_t (mul_t (s.c i) x) (v_of z s e i)) (pair_left e i)
      ∙ law3 (λ c l r. add_t (mul_t c l) (sub_t r (mul_t c l))) (λ c l r. r) tt (s.c i) (e i) (e (half z + i))

-- ---- the pairs of the last part

module _ (s : Secret) where
  -- where e_U is what a place of the last part takes, both trits of the pair are not 0
  pub forced_pair : (u v : Vector) (q : ℕ) (x : Trit) → is_set (s.c q) ≡ true → is_set x ≡ true → u q ≡ forced s v q x
      → (is_set (left_of s u v q) ≡ true) × (is_set (right_of s u v q) ≡ true)
  forced_pair u v q x h k e =
      (and-eq-true_iff _ _).0 (ap (λ (u : Trit).
      is_set (add_t u (mul_t (s.b q) (v q))) && is_set (add_t (mul_t (s.c q) (add_t u (mul_t (s.b q) (v q)))) (v q))) e
      ∙ implied (is_set (s.c q) && is_set x)
      (is_set (add_t (forced s v q x) (mul_t (s.b q) (v q))) && is_set (add_t (mul_t (s.c q) (add_t (forced s v q x) (mul_t (s.b q) (v q)))) (v q)))
      (test4 (λ b c v x. not (is_set c && is_set x)
      || (is_set (add_t (cond (is_set v) (mul_t (sub_t c b) v) x) (mul_t b v)) && is_set
      (add_t (mul_t c (add_t (cond (is_set v) (mul_t (sub_t c b) v) x) (mul_t b v))) v)))
      tt (s.b q) (s.c q) (v q) x)
      ((and-eq-true_iff (is_set (s.c q)) (is_set x)).1 (h, k)))

  -- and where both trits of a pair are not 0, e_U is that
  pub pair_forced : (u v : Vector) (q : ℕ) → is_set (s.c q) ≡ true → is_set (left_of s u v q) ≡ true → is_set (right_of s u v q) ≡ true
      → (forced s v q (u q) ≡ u q) × (v q ≡ t0 → is_set (u q) ≡ true)
  pair_forced u v q h k l =
      let t = (and-eq-true_iff (not (is_set (sub_t (forced s v q (u q)) (u q)))) (is_set (v q) || is_set (u q))).0
      (implied (is_set (s.c q) && (is_set (left_of s u v q) && is_set (right_of s u v q))) _
      (test4 (λ b c v u. not (is_set c && (is_set (add_t u (mul_t b v)) && is_set (add_t (mul_t c (add_t u (mul_t b v))) v)))
      || (not (is_set (sub_t (cond (is_set v) (mul_t (sub_t c b) v) u) u)) && (is_set v || is_set u)))
      tt (s.b q) (s.c q) (v q) (u q))
      ((and-eq-true_iff (is_set (s.c q)) _).1 (h, (and-eq-true_iff (is_set (left_of s u v q)) _).1 (k, l)))) in (
        sub_zero_eq (forced s v q (u q)) (u q) (unset_zero _ (not-true (is_set (sub_t (forced s v q (u q)) (u q))) t.0)),
        λ e. ap (λ (x : Trit). is_set x || is_set (u q)) (sym e) ∙ t.1,
      )

-- ---- the secret matrix

join_dot : (N : ℕ) (f g e : Vector) → dot_v (join N f g) e (N + N) ≡ add_t (dot_v f e N) (dot_v g (λ q. e (N + q)) N)
join_dot N f g e =
    dot_split N N (join N f g) e
    ∙ ap₂ add_t (dot_left N (join N f g) f e (λ q h. join_low N f g q h)) (dot_left N (λ q. join N f g (N + q)) g (λ q. e (N + q)) (λ q h. join_high N f g q))

module _ (z : Sizes) (s : Secret) where
  row_u : (i : ℕ) → i < ru z → secret_matrix z s i ≡ join (half z) (λ q. mul_t (d_of s q) (s.hu i q)) (λ q. neg_t (mul_t (s.b q) (s.hu i q)))
  unfolding secret_matrix
  row_u i h = rw (lt-ltb i (ru z) h)

  row_v : (i : ℕ) → secret_matrix z s (ru z + i) ≡ join (half z) (λ q. neg_t (mul_t (s.c q) (s.hv i q))) (s.hv i)
  unfolding secret_matrix
  row_v i =
      let e : (ru z + i) - ru z ≡ i = omega arith in
      rw (le-ltb (ru z + i) (ru z) (omega arith), e)

  -- the U rows do to a word what H_U does to its e_U, and the V rows what H_V does to its e_V
  pub secret_u : (e : Vector) (i : ℕ) → i < ru z → times (places z) (secret_matrix z s) e i ≡ times (half z) s.hu (u_of z s e) i
  secret_u e i h =
      ap (λ (f : Vector). dot_v f e (places z)) (row_u i h)
      ∙ join_dot (half z) (λ q. mul_t (d_of s q) (s.hu i q)) (λ q. neg_t (mul_t (s.b q) (s.hu i q))) e
      ∙ ap₂ add_t (dot_cong (half z) (λ q. mul_t (d_of s q) (s.hu i q)) e (s.hu i) (λ q. mul_t (d_of s q) (e q))
      (λ q k. law3 (λ d h l. mul_t (mul_t d h) l) (λ d h l. mul_t h (mul_t d l)) tt (d_of s q) (s.hu i q) (e q)))
      (dot_cong (half z) (λ q. neg_t (mul_t (s.b q) (s.hu i q))) (λ q. e (half z + q)) (s.hu i) (λ q. neg_t (mul_t (s.b q) (e (half z + q))))
      (λ q k. law3 (λ b h r. mul_t (neg_t (mul_t b h)) r) (λ b h r. mul_t h (neg_t (mul_t b r))) tt (s.b q) (s.hu i q) (e (half z + q))))
      ∙ sym (dot_add (half z) (s.hu i) (λ q. mul_t (d_of s q) (e q)) (λ q. neg_t (mul_t (s.b q) (e (half z + q)))))

  pub secret_v : (e : Vector) (i : ℕ) → times (places z) (secret_matrix z s) e (ru z + i) ≡ times (half z) s.hv (v_of z s e) i
  secret_v e i =
      ap (λ (f : Vector). dot_v f e (places z)) (row_v i)
      ∙ join_dot (half z) (λ q. neg_t (mul_t (s.c q) (s.hv i q))) (s.hv i) e
      ∙ Rattle.trits.proofs.Arithmetic.add_comm (dot_v (λ q. neg_t (mul_t (s.c q) (s.hv i q))) e (half z)) (dot_v (s.hv i) (λ q. e (half z + q)) (half z))
      ∙ ap (add_t (dot_v (s.hv i) (λ q. e (half z + q)) (half z)))
      (dot_cong (half z) (λ q. neg_t (mul_t (s.c q) (s.hv i q))) e (s.hv i) (λ q. neg_t (mul_t (s.c q) (e q)))
      (λ q k. law3 (λ c h l. mul_t (neg_t (mul_t c h)) l) (λ c h l. mul_t h (neg_t (mul_t c l))) tt (s.c q) (s.hv i q) (e q)))
      ∙ sym (dot_add (half z) (s.hv i) (λ q. e (half z + q)) (λ q. neg_t (mul_t (s.c q) (e q))))

  -- a row of the secret matrix is a row of U or of V
  pub by_rows : (P : ℕ → Type 0) → ((i : ℕ) → i < ru z → P i) → ((i : ℕ) → i < rv z → P (ru z + i)) → (i : ℕ) → i < codim z → P i
  by_rows P f g i h = go (ltb i (ru z)) refl
    where
      go : (t : Bool) → ltb i (ru z) ≡ t → P i
      go true e = f i (ltb-true i (ru z) e)
      go false e =
          let back : ru z + (i - ru z) ≡ i = omega (arith, ltb-false i (ru z) e) in
          subst P back (g (i - ru z) (omega (arith, ltb-false i (ru z) e)))

  -- the secret matrix reaches everything where H_U and H_V do
  pub secret_reaches : Reaches (ru z) (half z) s.hu → Reaches (rv z) (half z) s.hv → Reaches (codim z) (places z) (secret_matrix z s)
  secret_reaches a b v =
      let u = a v in
      let w = b (λ i. v (ru z + i)) in (
        whole z s u.0 w.0,
        by_rows (λ i. times (places z) (secret_matrix z s) (whole z s u.0 w.0) i ≡ v i)
            (λ i h. secret_u (whole z s u.0 w.0) i h
            ∙ dot_right (half z) (s.hu i) (u_of z s (whole z s u.0 w.0)) u.0 (whole_u z s u.0 w.0) ∙ u.1 i h)
            (λ i h. secret_v (whole z s u.0 w.0) i ∙ dot_right (half z) (s.hv i) (v_of z s (whole z s u.0 w.0)) w.0 (whole_v z s u.0 w.0)
            ∙ w.1 i h),
      )
