-- What the rows of a draw hold, by its definitions: the parted halves, the joined halves, their weight, and the word that is written. Assumes nothing.
use mathlib.Core.Path.{◌≡◌, sym, ap, ap₂, ◌∙◌, fun_ext}
use mathlib.Core.Logic.{◌≢◌}
use mathlib.Core.List.{List}
use Prim.Native.Nat.{ℕ, ◌+◌, ◌≤◌, ◌<◌}
use native.Mathlib.Nat.{zero-add}
use native.Mathlib.Decide.{dec_lt}
use native.Mathlib.Omega.{arith}
use lib.ListN.{length, get_or}
use Rattle.trits.specs.Trit.{Trit, t0, t1, add_t, sub_t, mul_t, zip_v, up_to, weight_v}
use Rattle.trits.proofs.Arithmetic.{add_comm, mul_comm, mul-zero}
use Rattle.trits.proofs.Ends.{upto_in, upto_out}
use Rattle.matrix.specs.Linear.{Vector, Matrix, zeros, solve, or_zeros, without}
use Rattle.matrix.specs.Orders.{Order}
use Rattle.matrix.proofs.Field.{law4}
use Rattle.matrix.proofs.Dots.{times_upto}
use Rattle.matrix.proofs.Places.{fill_off, elem_past}
use Rattle.matrix.proofs.Orders.{order_good}
use Rattle.matrix.proofs.Counts.{without_out}
use Rattle.scheme.specs.declared.sizes.Sizes.{Sizes}
use Rattle.scheme.specs.Sizes.{half, places, ru, rv, codim, gap_u}
use Rattle.scheme.specs.Secret.{Secret, join, u_of, v_of, left_of, right_of}
use Rattle.scheme.specs.Draw.{Choices, placed, first_u, last_u, pivots_v, pivots_u, supplied_v, supplied_u, forced, draw_v, draw_u, drawn, signature}
use Rattle.scheme_laws.proofs.Draws.{Valid, kept_v, kept_u, draw_v_good, draw_u_good, first_below, last_below}
use Rattle.draw_pairs.specs.Steps.{placed_rows, parted_rows, joined_rows, written_from}
use Rattle.draw_pairs.proofs.PlacedHalves.{Paired, placed_left, placed_right, placed_else, parted_left, parted_right, parted_else, joined_left}
use Rattle.draw_pairs.proofs.PlacedHalves.{joined_right, joined_else}
use Rattle.draw_pairs.proofs.Weighed.{pair_weighs}

-- ---- the halves of x parted

module _ (z : Sizes) (s : Secret) (x : Vector) where
  abbrev X : Vector
  X = up_to (half z) x

  abbrev Y : Vector
  Y = up_to (half z) (λ q. x (half z + q))

  right_trits : zip_v sub_t Y (zip_v mul_t X s.c) ≡ up_to (half z) (v_of z s x)
  right_trits = fun_ext (λ q. by q (dec_lt q (half z)))
    where
      by : (q : ℕ) → Dec (q < half z) → sub_t (Y q) (mul_t (X q) (s.c q)) ≡ up_to (half z) (v_of z s x) q
      by q (yes h) =
          ap₂ (λ (a b : Trit). sub_t a (mul_t b (s.c q))) (upto_in (λ q. x (half z + q)) (half z) q h) (upto_in x (half z) q h)
          ∙ ap (sub_t (x (half z + q))) (mul_comm (x q) (s.c q)) ∙ sym (upto_in (v_of z s x) (half z) q h)
      by q (no f) =
          ap₂ (λ (a b : Trit). sub_t a (mul_t b (s.c q))) (upto_out (λ q. x (half z + q)) (half z) q (omega arith)) (upto_out x (half z) q (omega arith))
          ∙ sym (upto_out (v_of z s x) (half z) q (omega arith))

  left_trits : zip_v sub_t X (zip_v mul_t (up_to (half z) (v_of z s x)) s.b) ≡ up_to (half z) (u_of z s x)
  left_trits = fun_ext (λ q. by q (dec_lt q (half z)))
    where
      by : (q : ℕ) → Dec (q < half z) → sub_t (X q) (mul_t (up_to (half z) (v_of z s x) q) (s.b q)) ≡ up_to (half z) (u_of z s x) q
      by q (yes h) =
          ap₂ (λ (a b : Trit). sub_t a (mul_t b (s.b q))) (upto_in x (half z) q h) (upto_in (v_of z s x) (half z) q h)
          ∙ law4 (λ l r b c. sub_t l (mul_t (sub_t r (mul_t c l)) b)) (λ l r b c.
          sub_t (mul_t (add_t t1 (mul_t b c)) l) (mul_t b r)) tt (x q) (x (half z + q)) (s.b q)
          (s.c q)
          ∙ sym (upto_in (u_of z s x) (half z) q h)
      by q (no f) =
          ap₂ (λ (a b : Trit). sub_t a (mul_t b (s.b q))) (upto_out x (half z) q (omega arith)) (upto_out (v_of z s x) (half z) q (omega arith))
          ∙ sym (upto_out (u_of z s x) (half z) q (omega arith))

  -- rows l and l + 1 that hold the halves of x hold x_U and x_V when they are parted
  pub parted_halves : (l : ℕ) (A : Matrix) → A l ≡ up_to (half z) x → A (l + 1) ≡ up_to (half z) (λ q. x (half z + q))
      → Paired l (l + 1) (l + 2) A (parted_rows l s.b s.c A) (up_to (half z) (u_of z s x)) (up_to (half z) (v_of z s x))
  parted_halves l A a b =
      let v : zip_v sub_t (A (l + 1)) (zip_v mul_t (A l) s.c) ≡ up_to (half z) (v_of z s x) = ap₂ (λ (r m : Vector). zip_v sub_t r (zip_v mul_t m s.c)) b a
      ∙ right_trits in
      record {
        left = parted_left l s.b s.c A ∙ ap₂ (λ (m r : Vector). zip_v sub_t m (zip_v mul_t r s.b)) a v ∙ left_trits;
        right = parted_right l s.b s.c A ∙ v;
        kept = λ k f g h. parted_else l s.b s.c A k f g h;
      }

  -- so they are when the syndrome is placed there and the halves are parted
  pub placed_parted : (l : ℕ) (A : Matrix)
      → Paired l (l + 1) (l + 2) A (parted_rows l s.b s.c (placed_rows l (half z) x A)) (up_to (half z) (u_of z s x)) (up_to (half z) (v_of z s x))
  placed_parted l A =
      let p = parted_halves l (placed_rows l (half z) x A) (placed_left l (half z) x A) (placed_right l (half z) x A) in
      record { left = p.left; right = p.right; kept = λ k f g h. p.kept k f g h ∙ placed_else l (half z) x A k f g }

-- ---- e_U and e_V joined

pub joined_halves : (s : Secret) (u v t : ℕ) (A : Matrix) (e_u e_v : Vector) → u ≢ v → u ≢ t → v ≢ t → A u ≡ e_u → A v ≡ e_v
    → Paired u v t A (joined_rows u v t s.b s.c A) (left_of s e_u e_v) (right_of s e_u e_v)
joined_halves s u v t A e_u e_v f g h a b =
    let l : zip_v add_t (A u) (zip_v mul_t (A v) s.b) ≡ left_of s e_u e_v =
    ap₂ (λ (x y : Vector). zip_v add_t x (zip_v mul_t y s.b)) a b ∙ fun_ext (λ q. ap (add_t (e_u q)) (mul_comm (e_v q) (s.b q))) in
    record {
      left = joined_left u v t f g h s.b s.c A ∙ l;
      right =
          joined_right u v t f g h s.b s.c A ∙ ap₂ (λ (x y : Vector). zip_v add_t x (zip_v mul_t y s.c)) b l
          ∙ fun_ext (λ q. add_comm (e_v q) (mul_t (left_of s e_u e_v q) (s.c q)) ∙ ap (λ (x : Trit). add_t x (e_v q)) (mul_comm (left_of s e_u e_v q) (s.c q)));
      kept = λ k x y z. joined_else u v t f g h s.b s.c A k x y z;
    }

-- ---- a draw looks at its halves below N alone

pub draw_v_half : (z : Sizes) (s : Secret) (x : Vector) (ch : Choices) → draw_v z s (up_to (half z) x) ch ≡ draw_v z s x ch
unfolding draw_v
draw_v_half z s x ch = ap (λ (v : Vector). or_zeros (solve (rv z) (half z) s.hv v (pivots_v z s ch) (supplied_v z s ch))) (times_upto (half z) s.hv x)

pub draw_u_half : (z : Sizes) (s : Secret) (x e_v : Vector) (ch : Choices) → draw_u z s (up_to (half z) x) e_v ch ≡ draw_u z s x e_v ch
unfolding draw_u
draw_u_half z s x e_v ch = ap (λ (v : Vector). or_zeros (solve (ru z) (half z) s.hu v (pivots_u z s ch) (supplied_u z s e_v ch))) (times_upto (half z) s.hu x)

-- ---- and is 0 from N on

module _ (z : Sizes) (s : Secret) (ch : Choices) (va : Valid z ch) where
  pub draw_v_ends : length (pivots_v z s ch) ≡ rv z → (x : Vector) (q : ℕ) → half z ≤ q → draw_v z s x ch q ≡ t0
  unfolding supplied_v
  draw_v_ends full x q h =
      (draw_v_good z s ch va full x).0 q (elem_past (half z) (pivots_v z s ch) q (kept_v z s ch va).below h)
      ∙ fill_off (without (pivots_v z s ch) ch.order_v) ch.trits_v zeros q
      (elem_past (half z) (without (pivots_v z s ch) ch.order_v) q
      (λ n m. (order_good (half z) ch.order_v va.order_v).1 n (without_out (pivots_v z s ch) ch.order_v n m).0) h)

  pub draw_u_ends : length (pivots_u z s ch) ≡ ru z → (x e_v : Vector) (q : ℕ) → half z ≤ q → draw_u z s x e_v ch q ≡ t0
  unfolding supplied_u
  draw_u_ends full x e_v q h =
      (draw_u_good z s ch va full x e_v).0 q (elem_past (half z) (pivots_u z s ch) q (kept_u z s ch va).below h)
      ∙ fill_off (last_u z ch) (λ j. forced s e_v (get_or (last_u z ch) j 0) (ch.values_u (gap_u z + j))) _ q
      (elem_past (half z) (last_u z ch) q (last_below z s ch va) h)
      ∙ fill_off (without (pivots_u z s ch) (first_u z ch)) ch.values_u zeros q
      (elem_past (half z) (without (pivots_u z s ch) (first_u z ch)) q
      (λ n m. first_below (half z) (ru z + gap_u z) ch.order_u va.order_u n (without_out (pivots_u z s ch) (first_u z ch) n m).0) h)

-- the joined halves of vectors that are 0 from N on
module _ (s : Secret) (N : ℕ) (u v : Vector) (eu : (q : ℕ) → N ≤ q → u q ≡ t0) (ev : (q : ℕ) → N ≤ q → v q ≡ t0) where
  pub left_ends : (q : ℕ) → N ≤ q → left_of s u v q ≡ t0
  left_ends q h = ap₂ (λ (x y : Trit). add_t x (mul_t (s.b q) y)) (eu q h) (ev q h) ∙ mul-zero (s.b q)

  pub right_ends : (q : ℕ) → N ≤ q → right_of s u v q ≡ t0
  right_ends q h = ap₂ (λ (x y : Trit). add_t (mul_t (s.c q) x) y) (left_ends q h) (ev q h) ∙ ap (λ (x : Trit). add_t x t0) (mul-zero (s.c q))

-- ---- the word of a draw

module _ (z : Sizes) (s : Secret) (p : List ℕ) (y : Vector) (ch : Choices) where
  -- x, and e_V and e_U for it
  abbrev pub start_of : Vector
  start_of = placed p (join (codim z) y zeros)

  abbrev pub drawn_v : Vector
  drawn_v = draw_v z s (v_of z s start_of) ch

  abbrev pub drawn_u : Vector
  drawn_u = draw_u z s (u_of z s start_of) drawn_v ch

  module _ (L R : Vector) (l : L ≡ left_of s drawn_u drawn_v) (r : R ≡ right_of s drawn_u drawn_v) where
    -- two rows that hold its halves are written as the word, and from place n-k on as the signature
    written : (from : ℕ) → written_from (half z) L R p from ≡ (λ (j : ℕ). drawn z s p y ch (from + j))
    unfolding drawn
    written from = ap₂ (λ (a b : Vector). written_from (half z) a b p from) l r

    pub word_written : written_from (half z) L R p 0 ≡ drawn z s p y ch
    word_written = written 0 ∙ fun_ext (λ j. ap (drawn z s p y ch) (zero-add j))

    pub signature_written : written_from (half z) L R p (codim z) ≡ signature z (drawn z s p y ch)
    signature_written = written (codim z)

    -- the weight of the two rows, of m places each
    pub drawn_weighs : Valid z ch → length (pivots_v z s ch) ≡ rv z → length (pivots_u z s ch) ≡ ru z → Order (places z) p → (m : ℕ) → half z ≤ m
        → weight_v L m + weight_v R m ≡ weight_v (drawn z s p y ch) (places z)
    unfolding drawn
    drawn_weighs va fv fu o m h =
        let ev = draw_v_ends z s ch va fv (v_of z s start_of) in
        let eu = draw_u_ends z s ch va fu (u_of z s start_of) drawn_v in
        ap₂ (λ (a b : Vector). weight_v a m + weight_v b m) l r
        ∙ pair_weighs (half z) m p (left_of s drawn_u drawn_v) (right_of s drawn_u drawn_v) o h (left_ends s (half z) drawn_u drawn_v eu ev)
        (right_ends s (half z) drawn_u drawn_v eu ev)
