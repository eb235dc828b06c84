-- The columns of one word, turned in blocks: their words are those of the matrix's columns. Assumes nothing.
use mathlib.Core.Path.{◌≡◌, refl, sym, ap, ◌∙◌}
use mathlib.Core.List.{List}
use Prim.Native.Nat.{ℕ, ◌+◌, ◌*◌, ◌^◌, ◌≤◌, ◌<◌}
use native.Mathlib.Nat.{mul-le-mul_right}
use native.Mathlib.Decide.{dec_lt}
use native.Mathlib.Omega.{arith}
use lib.ListN.{length, get_or, take}
use Rattle.trits.specs.Trit.{one, two, up_to}
use Rattle.trits.specs.Planes.{bit, trit_at, ones_word, twos_word}
use Rattle.trits.specs.Rows.{matrix_at}
use Rattle.trits.proofs.Bits.{bit_none}
use Rattle.trits.proofs.Reading.{coded_at, ones_word_law, twos_word_law}
use Rattle.trits.proofs.Ends.{upto_in, upto_out}
use Rattle.matrix.specs.Linear.{column}
use Rattle.grid.specs.Steps.{Rows}
use Rattle.grid.proofs.Cells.{cell}
use Rattle.gathering.specs.Own.{OwnBlock}
use Rattle.gathering.proofs.OwnBlocks.{same_front, front_word, front_past}
use Rattle.key_rows.specs.Steps.{read_down, TurnedGroup}

-- ---- the blocks

pub group_none : (w r c : ℕ) (l : List ℕ) → TurnedGroup w r c 0 l l
group_none w r c l = record { kept = refl; bits = λ g x b h. absurd (omega arith); before = λ p h. refl }

module _ {l₀ l l' : List ℕ} {w r c n : ℕ} (room : r * w ≤ length l₀) (a : TurnedGroup w r c n l₀ l) (b : OwnBlock w r (64 * n) c (r * w + 64 * n) l l') where
  by : (g x k : ℕ) → g < n + 1 → x < 64 → k < 64 → Dec (g < n)
      → bit k (get_or l' (r * w + x + 64 * g) 0) ≡ bit x (get_or (take (r * w) l₀) ((64 * g + k) * w + c) 0)
  by g x k h f o (yes d) = ap (bit k) (b.before (r * w + x + 64 * g) (omega arith)) ∙ a.bits g x k d f o
  by g x k h f o (no d) =
      let e : g ≡ n = omega arith in
      let u : r * w + x + 64 * g ≡ r * w + 64 * n + x = omega arith in
      ap (λ (z : ℕ). bit k (get_or l' z 0)) u ∙ b.bits x k f o
      ∙ ap (λ (z : List ℕ). bit x (get_or z ((64 * n + k) * w + c) 0)) (same_front (r * w) l₀ l room a.kept a.before)
      ∙ ap (λ (z : ℕ). bit x (get_or (take (r * w) l₀) ((64 * z + k) * w + c) 0)) (sym e)

  pub group_turn : TurnedGroup w r c (n + 1) l₀ l'
  group_turn = record {
    kept = b.kept ∙ a.kept;
    bits = λ g x k h f o. by g x k h f o (dec_lt g n);
    before = λ p h. b.before p (omega arith) ∙ a.before p h;
  }

-- ---- the bits down a column are those of its trits

module _ {o t : List ℕ} {rows w r : ℕ} (g : Rows o t rows w) (room : r ≤ rows) (c x : ℕ) (hc : c < w) (hx : x < 64) where
  within : r * w ≤ length o
  within = omega (arith, mul-le-mul_right w room, g.size)

  module _ (i : ℕ) where
    here : i < r → (bit x (get_or o (i * w + c) 0) ≡ one (up_to r (column (matrix_at w o t) (64 * c + x)) i))
        × (bit x (get_or t (i * w + c) 0) ≡ two (up_to r (column (matrix_at w o t) (64 * c + x)) i))
    here l =
        let q = 64 * c + x in
        let k = coded_at o t g.row.apart (i * w + c) x hx in
        let p : 64 * (i * w + c) + x ≡ 64 * (i * w) + q = omega arith in
        let s : trit_at o t (64 * (i * w + c) + x) ≡ up_to r (column (matrix_at w o t) q) i =
        ap (trit_at o t) p ∙ sym (cell w o t i q (omega arith)) ∙ sym (upto_in (column (matrix_at w o t) q) r i l) in
        (k.0 ∙ ap one s, k.1 ∙ ap two s)

    ones_down : Dec (i < r) → bit x (get_or (take (r * w) o) (i * w + c) 0) ≡ one (up_to r (column (matrix_at w o t) (64 * c + x)) i)
    ones_down (yes l) = ap (bit x) (front_word o w r i c l hc) ∙ (here l).0
    ones_down (no l) =
        ap (bit x) (front_past o w r i c (omega arith) within) ∙ bit_none x ∙ sym (ap one (upto_out (column (matrix_at w o t) (64 * c + x)) r i (omega arith)))

    twos_down : Dec (i < r) → bit x (get_or (take (r * w) t) (i * w + c) 0) ≡ two (up_to r (column (matrix_at w o t) (64 * c + x)) i)
    twos_down (yes l) = ap (bit x) (front_word t w r i c l hc) ∙ (here l).1
    twos_down (no l) =
        ap (bit x) (front_past t w r i c (omega arith) (omega (arith, within, g.row.same))) ∙ bit_none x
        ∙ sym (ap two (upto_out (column (matrix_at w o t) (64 * c + x)) r i (omega arith)))

  -- ---- a word of a turned column

  module _ {kw : ℕ} (j m : ℕ) (e : r + j ≡ 64 * c + x) (h : m < kw) where
    pub group_ones : {l₁ l : List ℕ} → length l₁ ≡ length o → ((p : ℕ) → p < r * w → get_or l₁ p 0 ≡ get_or o p 0) → TurnedGroup w r c kw l₁ l
        → get_or l (r * w + x + 64 * m) 0 < 2 ^ 64 → get_or l (r * w + x + 64 * m) 0 ≡ ones_word (read_down r (matrix_at w o t) j) m
    unfolding read_down
    group_ones {l₁} {l} n f a u =
        ones_word_law (up_to r (column (matrix_at w o t) (r + j))) m (get_or l (r * w + x + 64 * m) 0) u (λ b o'.
        a.bits m x b h hx o' ∙ ap (λ (z : List ℕ). bit x (get_or z ((64 * m + b) * w + c) 0)) (same_front (r * w) o l₁ within n f)
        ∙ ones_down (64 * m + b) (dec_lt (64 * m + b) r)
        ∙ ap (λ (q : ℕ). one (up_to r (column (matrix_at w o t) q) (64 * m + b))) (sym e))

    pub group_twos : {l₁ l : List ℕ} → length l₁ ≡ length t → ((p : ℕ) → p < r * w → get_or l₁ p 0 ≡ get_or t p 0) → TurnedGroup w r c kw l₁ l
        → get_or l (r * w + x + 64 * m) 0 < 2 ^ 64 → get_or l (r * w + x + 64 * m) 0 ≡ twos_word (read_down r (matrix_at w o t) j) m
    unfolding read_down
    group_twos {l₁} {l} n f a u =
        twos_word_law (up_to r (column (matrix_at w o t) (r + j))) m (get_or l (r * w + x + 64 * m) 0) u (λ b o'.
        a.bits m x b h hx o'
        ∙ ap (λ (z : List ℕ). bit x (get_or z ((64 * m + b) * w + c) 0)) (same_front (r * w) t l₁ (omega (arith, within, g.row.same)) n f)
        ∙ twos_down (64 * m + b) (dec_lt (64 * m + b) r)
        ∙ ap (λ (q : ℕ). two (up_to r (column (matrix_at w o t) q) (64 * m + b))) (sym e))
