-- The stages of a draw in the working space, one after another. Assumes nothing.
use mathlib.Core.Path.{◌≡◌, refl, sym, ap, ap₂, ◌∙◌, fun_ext, subst}
use mathlib.Core.Bool.{Bool, true, false}
use mathlib.Core.List.{List}
use Prim.Native.Nat.{ℕ, ◌+◌, ◌*◌, ◌≤◌, ◌<◌}
use native.Mathlib.Decide.{dec_lt}
use native.Mathlib.Omega.{arith}
use borrow.Author.Tests.{eqb-true, eq-eqb, ne_eqb}
use lib.Dec.{eqb, lit<}
use lib.ListN.{length}
use Rattle.trits.specs.Trit.{up_to, weight_v}
use Rattle.trits.specs.Planes.{zero_words}
use Rattle.trits.specs.Rows.{matrix_at}
use Rattle.trits.specs.Refusal.{demand}
use Rattle.trits.proofs.Lists.{length_zeros}
use Rattle.trits.proofs.Ends.{zeros_hold, upto_none}
use Rattle.trits.proofs.Refusals.{passed_demand}
use Rattle.matrix.specs.Linear.{Vector, Matrix, zeros, rank}
use Rattle.matrix.specs.Orders.{Order}
use Rattle.grid.specs.Steps.{Rows, Grid}
use Rattle.grid.proofs.Cells.{cell, cell_past}
use Rattle.scheme.specs.declared.sizes.Sizes.{Sizes}
use Rattle.scheme.specs.Sizes.{half, places, ru, rv, gap_v, gap_u}
use Rattle.scheme.specs.Secret.{Secret, u_of, v_of, left_of, right_of}
use Rattle.scheme.specs.Draw.{Choices, first_v, first_u, pivots_v, pivots_u, draw_v, draw_u, drawn, draw_refusal, ranks_refusal}
use Rattle.scheme_laws.proofs.Pairs.{no_zero_law}
use Rattle.scheme_laws.proofs.Draws.{Valid}
use Rattle.draw_half.specs.Steps.{Ends, Solved}
use Rattle.draw_half.proofs.HalfWords.{word_draw_v, word_draw_u, upto_ends}
use Rattle.draw_pairs.specs.Steps.{placed_rows, parted_rows, joined_rows}
use Rattle.draw_pairs.proofs.DrawRows.{placed_parted, joined_halves, draw_v_half, draw_u_half, drawn_weighs}
use Rattle.calls.specs.Lent.{secret_of}
use Rattle.calls.specs.DrawCall.{DrawCall, syndrome_of, choices_of}
use Rattle.draw_tests.specs.Steps.{ending, Ready}
use Rattle.draw_word.specs.Steps.{pairs_of, start_word, Parted, SolvedHalves, Joined, e_v_of, e_u_of, MadeWhere}

-- ---- a working space of 0

module _ {o t : List ℕ} (n k r w : ℕ) (e : o ≡ zero_words n) (f : t ≡ zero_words k) (a : n ≡ r * w) (b : k ≡ r * w) where
  pub space_rows : Rows o t r w
  space_rows = record { row = (zeros_hold zeros e f (b ∙ sym a)).row; size = ap length e ∙ length_zeros n ∙ a }

  pub space_empty : (i : ℕ) → matrix_at w o t i ≡ zeros
  space_empty i = fun_ext (λ q. by q (dec_lt q (64 * w)))
    where
      by : (q : ℕ) → Dec (q < 64 * w) → matrix_at w o t i q ≡ zeros q
      by q (yes h) = cell w o t i q h ∙ ap (λ (v : Vector). v (64 * (i * w) + q)) ((zeros_hold zeros e f (b ∙ sym a)).trits ∙ upto_none zeros)
      by q (no g) = cell_past w o t i q (omega arith)

-- ---- placed and parted

module _ (z : Sizes) (l : ℕ) (s : Secret) (x : Vector) (w : ℕ) (o₀ t₀ o₁ t₁ o₂ t₂ : List ℕ) {r : ℕ} where
  pub word_parted : ((i : ℕ) → matrix_at w o₀ t₀ i ≡ zeros) → Grid o₁ t₁ r w (placed_rows l (half z) x (matrix_at w o₀ t₀))
      → Grid o₂ t₂ r w (parted_rows l s.b s.c (matrix_at w o₁ t₁))
      → Parted z l s x (matrix_at w o₂ t₂)
  word_parted e g h =
      let c : matrix_at w o₂ t₂ ≡ parted_rows l s.b s.c (placed_rows l (half z) x (matrix_at w o₀ t₀)) = h.cells
      ∙ ap (parted_rows l s.b s.c) g.cells in
      let p = placed_parted z s x l (matrix_at w o₀ t₀) in
      record {
        left = ap (λ (A : Matrix). A l) c ∙ p.left;
        right = ap (λ (A : Matrix). A (l + 1)) c ∙ p.right;
        empty_v = ap (λ (A : Matrix). A (l + 3)) c ∙ p.kept (l + 3) (λ y. omega arith) (λ y. omega arith) (λ y. omega arith) ∙ e (l + 3);
        empty_u = ap (λ (A : Matrix). A (l + 4)) c ∙ p.kept (l + 4) (λ y. omega arith) (λ y. omega arith) (λ y. omega arith) ∙ e (l + 4);
      }

-- ---- orders and rows, with the order's own length

pub ends_own : {n : ℕ} {l : List ℕ} {v : Vector} → Order n l → Ends n v → Ends (length l) v
ends_own {v = v} o e = subst (λ (m : ℕ). Ends m v) (sym o.size) e

pub ends_to : {n : ℕ} {u v : Vector} → u ≡ v → Ends n v → Ends n u
ends_to {n} e h = subst (Ends n) (sym e) h

-- ---- e_V, then e_U

module _ (z : Sizes) (l : ℕ) (s : Secret) (ch : Choices) where
  -- what the test of each half's rank told
  pub told_v : {t u : Bool} → length ch.order_v ≡ half z → t ≡ eqb (rank (rv z) (length ch.order_v) s.hv (first_v z ch)) (rv z) → t ≡ u
      → eqb (rank (rv z) (half z) s.hv (first_v z ch)) (rv z) ≡ u
  told_v e f g = sym (ap (λ (n : ℕ). eqb (rank (rv z) n s.hv (first_v z ch)) (rv z)) e) ∙ sym f ∙ g

  pub told_u : {t u : Bool} → length ch.order_u ≡ half z → t ≡ eqb (rank (ru z) (length ch.order_u) s.hu (first_u z ch)) (ru z) → t ≡ u
      → eqb (rank (ru z) (half z) s.hu (first_u z ch)) (ru z) ≡ u
  told_u e f g = sym (ap (λ (n : ℕ). eqb (rank (ru z) n s.hu (first_u z ch)) (ru z)) e) ∙ sym f ∙ g

  module _ {A B : Matrix} (e : length ch.order_v ≡ half z)
      (h : Solved (rv z) (l + 2) (l + 3) A B (Rattle.draw_half.specs.Steps.word_v (rv z) (length ch.order_v) s.hv ch.order_v (gap_v z) ch.trits_v
      (A (l + 1)))) where
    pub row_v : B (l + 3) ≡ draw_v z s (A (l + 1)) ch
    row_v =
        h.word ∙ ap (λ (n : ℕ). Rattle.draw_half.specs.Steps.word_v (rv z) n s.hv ch.order_v (gap_v z) ch.trits_v (A (l + 1))) e
        ∙ word_draw_v z s (A (l + 1)) ch

    module _ (g : rv z + 243 ≤ l) where
      pub kept_x : B l ≡ A l
      kept_x = h.kept l g (λ y. omega arith) (λ y. omega arith)

      pub kept_u : B (l + 4) ≡ A (l + 4)
      kept_u = h.kept (l + 4) (omega arith) (λ y. omega arith) (λ y. omega arith)

      module _ {C : Matrix} (f : length ch.order_u ≡ half z) (m : ru z + 243 ≤ l)
          (k : Solved (ru z) (l + 2) (l + 4) B C (Rattle.draw_half.specs.Steps.word_u (ru z) (length ch.order_u) s.hu s.b s.c ch.order_u (gap_u z)
          ch.values_u (B (l + 3)) (B l))) where
        row_u : C (l + 4) ≡ draw_u z s (A l) (draw_v z s (A (l + 1)) ch) ch
        row_u =
            k.word ∙ ap (λ (n : ℕ). Rattle.draw_half.specs.Steps.word_u (ru z) n s.hu s.b s.c ch.order_u (gap_u z) ch.values_u (B (l + 3)) (B l)) f
            ∙ word_draw_u z s (B l) (B (l + 3)) ch ∙ ap₂ (λ (x y : Vector). draw_u z s x y ch) kept_x row_v

        pub halves_solved : SolvedHalves 0 z l s ch (A l) (A (l + 1)) C
        halves_solved = record { e_v = λ y. k.kept (l + 3) (omega arith) (λ y. omega arith) (λ y. omega arith) ∙ row_v; e_u = λ y. row_u }

pub unsolved : {n : ℕ} {z : Sizes} {l : ℕ} {s : Secret} {ch : Choices} {x_u x_v : Vector} {A : Matrix} → 0 < n → SolvedHalves n z l s ch x_u x_v A
unsolved h = record { e_v = λ y. absurd (omega arith); e_u = λ y. absurd (omega arith) }

pub upto_row : {n : ℕ} {u : Vector} (v : Vector) → u ≡ up_to n v → Ends n u
upto_row {n} {u} v e = ends_to e (upto_ends n v)

-- ---- joined

module _ (l : ℕ) (s : Secret) (w : ℕ) (o₁ t₁ o₂ t₂ : List ℕ) {r : ℕ} where
  pub word_joined : Grid o₂ t₂ r w (joined_rows (l + 4) (l + 3) (l + 2) s.b s.c (matrix_at w o₁ t₁)) → Joined l s (matrix_at w o₁ t₁) (matrix_at w o₂ t₂)
  word_joined g =
      let p = joined_halves s (l + 4) (l + 3) (l + 2) (matrix_at w o₁ t₁) (matrix_at w o₁ t₁ (l + 4)) (matrix_at w o₁ t₁ (l + 3)) (λ y. omega arith)
      (λ y. omega arith) (λ y. omega arith) refl refl in
      record { left = ap (λ (A : Matrix). A (l + 4)) g.cells ∙ p.left; right = ap (λ (A : Matrix). A (l + 3)) g.cells ∙ p.right }

-- ---- the whole

pub unmade : {n : ℕ} {z : Sizes} {l : ℕ} {i : DrawCall} {A : Matrix} → 0 < n → MadeWhere n z l i A
unmade h = record { left = λ y. absurd (omega arith); right = λ y. absurd (omega arith) }

module _ (z : Sizes) (s : Secret) (ch : Choices) where
  abbrev t_v : Bool
  t_v = eqb (rank (rv z) (half z) s.hv (first_v z ch)) (rv z)

  abbrev t_u : Bool
  t_u = eqb (rank (ru z) (half z) s.hu (first_u z ch)) (ru z)

  -- a refusal of the ranks decides
  ranks_stop : (rest : ℕ) {x : ℕ} → x ≡ ranks_refusal z s ch 0 → (x ≡ 0 → ⊥) → x ≡ ranks_refusal z s ch rest
  ranks_stop rest {x} e f = e ∙ by t_v t_u (λ y. f (e ∙ y))
    where
      by : (a b : Bool) → (demand a 12 (demand b 13 0) ≡ 0 → ⊥) → demand a 12 (demand b 13 0) ≡ demand a 12 (demand b 13 rest)
      by true true k = absurd (k refl)
      by true false k = refl
      by false b k = refl

  module _ (e : ranks_refusal z s ch 0 ≡ 0) where
    tested : (t_v ≡ true) × (t_u ≡ true)
    tested =
        let a = passed_demand t_v 12 _ (lit< tt) e in
        let b = passed_demand t_u 13 0 (lit< tt) a.1 in
        (a.0, b.0)

    ranks_go : (rest : ℕ) → ranks_refusal z s ch rest ≡ rest
    ranks_go rest = rw (tested.0, tested.1)

    full_v_here : length (pivots_v z s ch) ≡ rv z
    unfolding pivots_v rank
    full_v_here = eqb-true (rank (rv z) (half z) s.hv (first_v z ch)) (rv z) tested.0

    full_u_here : length (pivots_u z s ch) ≡ ru z
    unfolding pivots_u rank
    full_u_here = eqb-true (rank (ru z) (half z) s.hu (first_u z ch)) (ru z) tested.1

module _ (z : Sizes) (i : DrawCall) where
  abbrev S : Secret
  S = secret_of z i.secret

  pub ending_ranks : {x : ℕ} → x ≡ ranks_refusal z S (choices_of i) 0 → (x ≡ 0 → ⊥) → x ≡ ending z i
  unfolding draw_refusal
  ending_ranks e f = ranks_stop z S (choices_of i) (demand (eqb (weight_v (drawn z S i.p (syndrome_of i) (choices_of i)) (places z)) z.w) 14 0) e f

  module _ (e : ranks_refusal z S (choices_of i) 0 ≡ 0) where
    ending_weight : {t : Bool} → eqb (weight_v (drawn z S i.p (syndrome_of i) (choices_of i)) (places z)) z.w ≡ t → demand t 14 0 ≡ ending z i
    unfolding draw_refusal
    ending_weight f =
        sym (ranks_go z S (choices_of i) e (demand (eqb (weight_v (drawn z S i.p (syndrome_of i) (choices_of i)) (places z)) z.w) 14 0)
        ∙ ap (λ (t : Bool). demand t 14 0) f)

    abbrev P : Secret
    P = pairs_of i.secret.b.ones i.secret.b.twos i.secret.c.ones i.secret.c.twos

    module _ (l : ℕ) {A B C : Matrix} (r : Ready z i) (a : Parted z l P (start_word z i.p (syndrome_of i)) A) {n : ℕ} (n0 : n ≡ 0)
        (h : SolvedHalves n z l S (choices_of i) (A l) (A (l + 1)) B) (j : Joined l P B C) where
      row_e_v : B (l + 3) ≡ e_v_of z i
      row_e_v = h.e_v n0 ∙ ap (λ (x : Vector). draw_v z S x (choices_of i)) a.right
          ∙ draw_v_half z S (v_of z S (start_word z i.p (syndrome_of i))) (choices_of i)

      row_e_u : B (l + 4) ≡ e_u_of z i
      row_e_u =
          h.e_u n0
          ∙ ap₂ (λ (x y : Vector). draw_u z S x y (choices_of i)) a.left
          (ap (λ (x : Vector). draw_v z S x (choices_of i)) a.right ∙ draw_v_half z S (v_of z S (start_word z i.p (syndrome_of i))) (choices_of i))
          ∙ draw_u_half z S (u_of z S (start_word z i.p (syndrome_of i))) (e_v_of z i) (choices_of i)

      row_left : C (l + 4) ≡ left_of S (e_u_of z i) (e_v_of z i)
      row_left = j.left ∙ ap₂ (left_of S) row_e_u row_e_v

      row_right : C (l + 3) ≡ right_of S (e_u_of z i) (e_v_of z i)
      row_right = j.right ∙ ap₂ (right_of S) row_e_u row_e_v

      pub made : MadeWhere 0 z l i C
      made = record { left = λ y. row_left; right = λ y. row_right }

      valid : Valid z (choices_of i)
      valid = record { order_v = r.choices.order_v; order_u = r.choices.order_u; values = no_zero_law _ _ r.choices.values }

      weighs : (m : ℕ) → half z ≤ m → weight_v (C (l + 4)) m + weight_v (C (l + 3)) m ≡ weight_v (drawn z S i.p (syndrome_of i) (choices_of i)) (places z)
      weighs m g =
          drawn_weighs z S i.p (syndrome_of i) (choices_of i) (C (l + 4)) (C (l + 3)) row_left row_right valid (full_v_here z S (choices_of i) e)
          (full_u_here z S (choices_of i) e) r.choices.p m g

      module _ {x : ℕ} (m : ℕ) (g : half z ≤ m) (y : x ≡ weight_v (C (l + 4)) m + weight_v (C (l + 3)) m) where
        pub ending_fourteen : (x ≡ z.w → ⊥) → 14 ≡ ending z i
        ending_fourteen f = ending_weight (ne_eqb _ z.w (λ q. f (y ∙ weighs m g ∙ q)))

        pub ending_none : x ≡ z.w → 0 ≡ ending z i
        ending_none f = ending_weight (eq-eqb _ z.w (sym (y ∙ weighs m g) ∙ f))
