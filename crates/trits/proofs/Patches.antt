-- A list whose words from some place on a loop has replaced, one in each turn, and what two planes hold after such a loop. Assumes nothing.
use mathlib.Core.Path.{◌≡◌, refl, sym, ap, ap₂, ◌∙◌, subst, fun_ext}
use mathlib.Core.Logic.{◌≢◌}
use mathlib.Core.Bool.{Bool, ◌&&◌, cond}
use mathlib.Core.List.{List}
use Prim.Native.Nat.{ℕ, ◌+◌, ◌-◌, ◌*◌, ◌/◌, ◌%◌, ◌≤◌, ◌<◌}
use native.Mathlib.Nat.{not-suc-le-zero, zero-add}
use native.Mathlib.Decide.{dec_lt, ℕ_discrete}
use native.Mathlib.Omega.{arith}
use borrow.Author.Tests.{le-leb, lt-leb, lt-ltb, le-ltb}
use lib.ListN.{length, get_or, set, length-set}
use lib.Seq.{get_or-set_same, get_or-set_other}
use lib.Dec.{ltb}
use lib.Bits.{bit_and}
use Rattle.trits.specs.Trit.{Trit, t0, zip_v, zip_at}
use Rattle.trits.specs.Planes.{bit, trit, bit_at, trit_at, tabulate, Apart, Row, Reads}
use Rattle.trits.proofs.Lists.{tabulated}
use Rattle.trits.proofs.Reading.{read_past, trit_at_word}
use Rattle.trits.proofs.WordOps.{WordOp, op_trit, op_apart}

-- ---- the list

-- l is l₀ with the k words from a on replaced by f 0, f 1, ..
pub record Patched (f : ℕ → ℕ) (a k : ℕ) (l₀ l : List ℕ) : Type 0 where
  pub kept : length l ≡ length l₀
  pub new : (j : ℕ) → j < k → get_or l (a + j) 0 ≡ f j
  pub below : (q : ℕ) → q < a → get_or l q 0 ≡ get_or l₀ q 0
  pub above : (q : ℕ) → a + k ≤ q → get_or l q 0 ≡ get_or l₀ q 0

-- where the loop begins
pub patch_none : (f : ℕ → ℕ) (a : ℕ) (l : List ℕ) → Patched f a 0 l l
patch_none f a l = record { kept = refl; new = λ j h. absurd (not-suc-le-zero h); below = λ q h. refl; above = λ q h. refl }

patch_suc : {f : ℕ → ℕ} {a k : ℕ} {l₀ l : List ℕ} (x : ℕ) → Patched f a k l₀ l → a + k < length l₀ → x ≡ f k → Patched f a (k + 1) l₀ (set l (a + k) x)
patch_suc {f} {a} {k} {l₀} {l} x p h e =
    let ne : (q : ℕ) → q ≢ a + k → get_or (set l (a + k) x) q 0 ≡ get_or l q 0 = λ q g. get_or-set_other l (a + k) q x 0 g in
    record {
      kept = length-set l (a + k) x ∙ p.kept;
      new = λ j g. at j g (ℕ_discrete j k);
      below = λ q g. ne q (omega arith) ∙ p.below q g;
      above = λ q g. ne q (omega arith) ∙ p.above q (omega arith);
    }
  where
    at : (j : ℕ) → j < k + 1 → Dec (j ≡ k) → get_or (set l (a + k) x) (a + j) 0 ≡ f j
    at j g (yes q) = ap (λ (i : ℕ). get_or (set l (a + k) x) (a + i) 0) q ∙ get_or-set_same l (a + k) x 0 (omega (arith, p.kept)) ∙ e ∙ ap f (sym q)
    at j g (no q) = get_or-set_other l (a + k) (a + j) x 0 (omega arith) ∙ p.new j (omega arith)

module _ {f : ℕ → ℕ} {a k : ℕ} {l₀ l : List ℕ} (p : Patched f a k l₀ l) (q : ℕ) where
  -- a turn stores at q
  pub patch_more : (x : ℕ) → q ≡ a + k → q < length l₀ → x ≡ f k → Patched f a (k + 1) l₀ (set l q x)
  patch_more x e h y = rw e (patch_suc x p (rw e at h) y)

  -- a turn reads at q what was there at first
  pub patch_here : q ≡ a + k → get_or l q 0 ≡ get_or l₀ (a + k) 0
  patch_here e = ap (λ (i : ℕ). get_or l i 0) e ∙ p.above (a + k) (omega arith)

-- a turn replaces the n words after them, which begin at c
pub patch_join : {f g : ℕ → ℕ} {a c k n : ℕ} {l₀ l m : List ℕ} → Patched f a k l₀ l → Patched g c n l m → c ≡ a + k
    → ((j : ℕ) → j < n → g j ≡ f (k + j)) → Patched f a (k + n) l₀ m
patch_join {f} {g} {a} {c} {k} {n} {l₀} {l} {m} p q s e = record {
  kept = q.kept ∙ p.kept;
  new = λ j h. at j h (dec_lt j k);
  below = λ i h. q.below i (omega arith) ∙ p.below i h;
  above = λ i h. q.above i (omega arith) ∙ p.above i (omega arith);
}
  where
    at : (j : ℕ) → j < k + n → Dec (j < k) → get_or m (a + j) 0 ≡ f j
    at j h (yes d) = q.below (a + j) (omega arith) ∙ p.new j d
    at j h (no d) =
        let i = j - k in
        let d : j ≡ k + i = omega arith in
        ap (λ (z : ℕ). get_or m z 0) (omega arith) ∙ q.new i (omega arith) ∙ e i (omega arith) ∙ ap f (sym d)

-- where every word was replaced the list is f's
pub patched_all : {f : ℕ → ℕ} {k : ℕ} {l₀ l : List ℕ} (n : ℕ) → Patched f 0 k l₀ l → length l₀ ≡ n → k ≡ n → l ≡ tabulate f n
patched_all {f} {k} {l₀} {l} n p e q =
    tabulated n f l (p.kept ∙ e) (λ j h. ap (λ (x : ℕ). get_or l x 0) (sym (zero-add j)) ∙ p.new j (omega arith))

-- ---- an operation on a stretch, at each place

module _ (op : Trit → Trit → Trit) (u v : ℕ → Trit) (a n : ℕ) where
  pub zip_at_here : (k : ℕ) → k < 64 * n → zip_at op u v a n (64 * a + k) ≡ op (u (64 * a + k)) (v k)
  unfolding zip_at
  zip_at_here k h =
      ap₂ (λ (s t : Bool). cond (s && t) (op (u (64 * a + k)) (v (64 * a + k - 64 * a))) (u (64 * a + k)))
      (le-leb (64 * a) (64 * a + k) (omega arith)) (lt-ltb (64 * a + k) (64 * (a + n)) (omega arith))
      ∙ ap (λ (i : ℕ). op (u (64 * a + k)) (v i)) (omega arith)

  pub zip_below : (p : ℕ) → p < 64 * a → zip_at op u v a n p ≡ u p
  unfolding zip_at
  zip_below p h = ap (λ (s : Bool). cond (s && ltb p (64 * (a + n))) (op (u p) (v (p - 64 * a))) (u p)) (lt-leb (64 * a) p h)

  pub zip_above : (p : ℕ) → 64 * (a + n) ≤ p → zip_at op u v a n p ≡ u p
  unfolding zip_at
  zip_above p h =
      ap₂ (λ (s t : Bool). cond (s && t) (op (u p) (v (p - 64 * a))) (u p)) (le-leb (64 * a) p (omega arith)) (le-ltb p (64 * (a + n)) h)

-- ---- two planes after a loop that made words by masks

-- the words that the loop makes of the words from a on of o and t, and the words of so and st
abbrev pub words_at : (ℕ → ℕ → ℕ → ℕ → ℕ) → List ℕ → List ℕ → List ℕ → List ℕ → ℕ → ℕ → ℕ
words_at F o t so st a j = F (get_or o (a + j) 0) (get_or t (a + j) 0) (get_or so j 0) (get_or st j 0)

module _ {F G : ℕ → ℕ → ℕ → ℕ → ℕ} {op : Trit → Trit → Trit} (w : WordOp F G op) {o₀ t₀ so st o t : List ℕ} {a n : ℕ}
    (s : Apart o₀ t₀) (r : Apart so st) (po : Patched (words_at F o₀ t₀ so st a) a n o₀ o) (pt : Patched (words_at G o₀ t₀ so st a) a n t₀ t) where
  trits_at : (p : ℕ) → Dec (p < 64 * a) → Dec (p < 64 * (a + n)) → trit_at o t p ≡ zip_at op (trit_at o₀ t₀) (trit_at so st) a n p
  unfolding trit_at bit_at
  trits_at p (yes h) d =
      ap₂ (λ (x y : ℕ). trit (bit (p % 64) x) (bit (p % 64) y)) (po.below (p / 64) (omega arith)) (pt.below (p / 64) (omega arith))
      ∙ sym (zip_below op (trit_at o₀ t₀) (trit_at so st) a n p h)
  trits_at p (no h) (no g) =
      ap₂ (λ (x y : ℕ). trit (bit (p % 64) x) (bit (p % 64) y)) (po.above (p / 64) (omega arith)) (pt.above (p / 64) (omega arith))
      ∙ sym (zip_above op (trit_at o₀ t₀) (trit_at so st) a n p (omega arith))
  trits_at p (no h) (yes g) =
      let j = p / 64 - a in
      let k = p - 64 * a in
      let i = p % 64 in
      let e : p / 64 ≡ a + j = omega arith in
      trit_at_word o t p (a + j) i e refl
      ∙ ap₂ (λ (x y : ℕ). trit (bit i x) (bit i y)) (po.new j (omega arith)) (pt.new j (omega arith))
      ∙ op_trit w (get_or o₀ (a + j) 0) (get_or t₀ (a + j) 0) (get_or so j 0) (get_or st j 0) (s.word (a + j)) (r.word j) i
      ∙ sym (ap₂ op (trit_at_word o₀ t₀ (64 * a + k) (a + j) i (omega arith) (omega arith)) (trit_at_word so st k j i (omega arith) (omega arith)))
      ∙ sym (zip_at_here op (trit_at o₀ t₀) (trit_at so st) a n k (omega arith))
      ∙ ap (zip_at op (trit_at o₀ t₀) (trit_at so st) a n) (omega arith)

  apart_at : (q : ℕ) → Dec (q < a) → Dec (q < a + n) → bit_and (get_or o q 0) (get_or t q 0) ≡ 0
  apart_at q (yes h) d = ap₂ bit_and (po.below q h) (pt.below q h) ∙ s.word q
  apart_at q (no h) (no g) = ap₂ bit_and (po.above q (omega arith)) (pt.above q (omega arith)) ∙ s.word q
  apart_at q (no h) (yes g) =
      let j = q - a in
      ap (λ (x : ℕ). bit_and (get_or o x 0) (get_or t x 0)) (omega arith)
      ∙ ap₂ bit_and (po.new j (omega arith)) (pt.new j (omega arith))
      ∙ op_apart w (get_or o₀ (a + j) 0) (get_or t₀ (a + j) 0) (get_or so j 0) (get_or st j 0) (s.word (a + j)) (r.word j)

  -- a loop over a stretch does the trits' operation on that stretch
  pub stretch_reads : length t₀ ≡ length o₀ → Reads o t (length o₀) (zip_at op (trit_at o₀ t₀) (trit_at so st) a n)
  stretch_reads e = record {
    row = record {
      same = pt.kept ∙ e ∙ sym po.kept;
      apart = record { word = λ q. apart_at q (dec_lt q a) (dec_lt q (a + n)) };
    };
    size = po.kept;
    trits = fun_ext (λ p. trits_at p (dec_lt p (64 * a)) (dec_lt p (64 * (a + n))));
  }

module _ {F G : ℕ → ℕ → ℕ → ℕ → ℕ} {op : Trit → Trit → Trit} (w : WordOp F G op) (z : op t0 t0 ≡ t0) {o₀ t₀ so st o t : List ℕ} {n : ℕ}
    (s : Row o₀ t₀) (r : Row so st) (l : length so ≡ length o₀) (po : Patched (words_at F o₀ t₀ so st 0) 0 n o₀ o)
    (pt : Patched (words_at G o₀ t₀ so st 0) 0 n t₀ t) where
  whole_at : (p : ℕ) → n ≡ length o₀ → Dec (p < 64 * n) → zip_at op (trit_at o₀ t₀) (trit_at so st) 0 n p ≡ op (trit_at o₀ t₀ p) (trit_at so st p)
  whole_at p e (yes h) =
      let same : 64 * 0 + p ≡ p = omega arith in
      subst (λ (i : ℕ). zip_at op (trit_at o₀ t₀) (trit_at so st) 0 n i ≡ op (trit_at o₀ t₀ i) (trit_at so st p)) same
      (zip_at_here op (trit_at o₀ t₀) (trit_at so st) 0 n p h)
  whole_at p e (no h) =
      let u : trit_at o₀ t₀ p ≡ t0 = read_past o₀ t₀ (length o₀) p refl s.same (omega arith) in
      let v : trit_at so st p ≡ t0 = read_past so st (length o₀) p l (r.same ∙ l) (omega arith) in
      zip_above op (trit_at o₀ t₀) (trit_at so st) 0 n p (omega arith) ∙ u ∙ sym (ap₂ op u v ∙ z)

  -- a loop over whole rows does the trits' operation at every place
  pub rows_read : n ≡ length o₀ → Reads o t (length o₀) (zip_v op (trit_at o₀ t₀) (trit_at so st))
  rows_read e =
      let h = stretch_reads w s.apart r.apart po pt s.same in
      record { row = h.row; size = h.size; trits = h.trits ∙ fun_ext (λ p. whole_at p e (dec_lt p (64 * n))) }
