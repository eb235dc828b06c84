-- Where the first mark stands, whether all bytes are in a range, the parts between marks, and a text parted at its first tab. Assumes nothing.
use mathlib.Core.Path.{◌≡◌, refl, sym, ap, ◌∙◌}
use mathlib.Core.Bool.{Bool, true, false, ◌&&◌, not, cond, and-eq-true_iff}
use mathlib.Core.List.{List, [], ◌∷◌}
use Prim.Native.Nat.{ℕ, zero, suc, ◌+◌, ◌-◌, ◌≤◌, ◌<◌, zero-le}
use native.Mathlib.Nat.{not-suc-le-zero, le_of_suc-le-suc}
use native.Mathlib.Numerals.{add-one}
use native.Mathlib.Omega.{arith}
use native.Mathlib.Decide.{dec_lt}
use borrow.Author.Tests.{eq-eqb, ne_eqb, le-leb, lt-leb, leb-true, ltb-true, lt-ltb}
use lib.Dec.{eqb, leb, ltb}
use lib.ListN.{length, get_or, take, drop, drop_of_length-le, length-drop}
use lib.Seq.{drop-cons, length-take-le, take_all}
use Rattle.std.specs.Prelude.{◌==◌, Some, None}
use Rattle.std.specs.List.{position, position_or_len}
use Rattle.std.proofs.lemmas.Option.{cond_some, none-some}
use Rattle.text.specs.Fields.{onto, split, fields, all_between}
use Rattle.text.specs.Steps.{PartedAt}

-- how many bytes stand before the first mark
abbrev pub before : ℕ → List ℕ → ℕ
before mark l = position_or_len (λ b. b == mark) l

-- what is left at place i is its byte and what is left after it
next : (l : List ℕ) (i : ℕ) → i < length l → drop i l ≡ get_or l i 0 ∷ drop (i + 1) l
next l i h = drop-cons l i 0 h ∙ ap (λ (j : ℕ). get_or l i 0 ∷ drop j l) (sym (add-one i))

-- ---- the first mark

module _ (l : List ℕ) (i : ℕ) where
  pub found_here : i < length l → get_or l i 0 ≡ 9 → before 9 (drop i l) ≡ 0
  found_here h e =
      ap (before 9) (next l i h) ∙ ap (λ (t : Bool). cond (not t) (1 + before 9 (drop (i + 1) l)) 0) (eq-eqb (get_or l i 0) 9 e)

  pub found_later : i < length l → (get_or l i 0 ≡ 9 → ⊥) → before 9 (drop i l) ≡ suc (before 9 (drop (i + 1) l))
  found_later h f =
      let n : 1 + before 9 (drop (i + 1) l) ≡ suc (before 9 (drop (i + 1) l)) = omega arith in
      ap (before 9) (next l i h) ∙ ap (λ (t : Bool). cond (not t) (1 + before 9 (drop (i + 1) l)) 0) (ne_eqb (get_or l i 0) 9 f) ∙ n

  pub found_none : length l ≤ i → before 9 (drop i l) ≡ 0
  found_none h = ap (before 9) (drop_of_length-le l {i = i} h)

  -- ---- bytes in a range

  module _ (low high : ℕ) where
    -- the answer from the two tests of the byte at place i
    abbrev tested : Bool → Bool → Bool
    tested a b = (a && b) && all_between low high (drop (i + 1) l)

    at_byte : i < length l → all_between low high (drop i l) ≡ tested (leb low (get_or l i 0)) (leb (get_or l i 0) high)
    unfolding all_between
    at_byte h = ap (all_between low high) (next l i h)

    pub all_below : i < length l → get_or l i 0 < low → all_between low high (drop i l) ≡ false
    all_below h f = at_byte h ∙ ap (λ (t : Bool). tested t (leb (get_or l i 0) high)) (lt-leb low (get_or l i 0) f)

    pub all_above : i < length l → low ≤ get_or l i 0 → high < get_or l i 0 → all_between low high (drop i l) ≡ false
    all_above h g f =
        at_byte h ∙ ap (λ (t : Bool). tested t (leb (get_or l i 0) high)) (le-leb low (get_or l i 0) g)
        ∙ ap (tested true) (lt-leb (get_or l i 0) high f)

    pub all_next : i < length l → low ≤ get_or l i 0 → get_or l i 0 ≤ high → all_between low high (drop i l) ≡ all_between low high (drop (i + 1) l)
    all_next h g f =
        at_byte h ∙ ap (λ (t : Bool). tested t (leb (get_or l i 0) high)) (le-leb low (get_or l i 0) g)
        ∙ ap (tested true) (le-leb (get_or l i 0) high f)

    pub all_end : length l ≤ i → all_between low high (drop i l) ≡ true
    unfolding all_between
    all_end h = ap (all_between low high) (drop_of_length-le l {i = i} h)

-- a byte of a field whose bytes are all in a range
pub all_at : (low high : ℕ) (l : List ℕ) (i : ℕ) → i < length l → all_between low high l ≡ true → (low ≤ get_or l i 0) × (get_or l i 0 ≤ high)
unfolding all_between
all_at low high [] i h e = absurd (not-suc-le-zero h)
all_at low high (b ∷ l) zero h e =
    let p = (and-eq-true_iff (leb low b) (leb b high)).0 ((and-eq-true_iff (leb low b && leb b high) (all_between low high l)).0 e).0 in
    (leb-true low b p.0, leb-true b high p.1)
all_at low high (b ∷ l) (suc i) h e = all_at low high l i (le_of_suc-le-suc h) ((and-eq-true_iff (leb low b && leb b high) (all_between low high l)).0 e).1

-- ---- the parts between marks

pub before_le : (mark : ℕ) (l : List ℕ) → before mark l ≤ length l
before_le mark [] = zero-le
before_le mark (b ∷ l) = by (eqb b mark) (before_le mark l)
  where
    by : (t : Bool) → before mark l ≤ length l → cond (not t) (1 + before mark l) 0 ≤ suc (length l)
    by true h = zero-le
    by false h = omega arith

-- where a mark is found, the first part ends there, and the others are those of what follows it
pub split_more : (mark : ℕ) (l : List ℕ) → before mark l < length l → split mark l ≡ take (before mark l) l ∷ split mark (drop (suc (before mark l)) l)
unfolding split onto
split_more mark [] h = absurd (not-suc-le-zero h)
split_more mark (b ∷ l) h = by (eqb b mark) h (split_more mark l)
  where
    by : (t : Bool) → cond (not t) (1 + before mark l) 0 < suc (length l)
        → (before mark l < length l → split mark l ≡ take (before mark l) l ∷ split mark (drop (suc (before mark l)) l))
        → cond t ([] ∷ split mark l) (onto b (split mark l)) ≡ take (cond (not t) (1 + before mark l) 0) (b ∷ l) ∷ split mark
        (drop (suc (cond (not t) (1 + before mark l) 0)) (b ∷ l))
    by true h f = refl
    by false h f =
        let p : 1 + before mark l ≡ suc (before mark l) = omega arith in
        rw p (ap (onto b) (f (omega arith)))

-- where none is found, there is one part
pub split_last : (mark : ℕ) (l : List ℕ) → length l ≤ before mark l → split mark l ≡ l ∷ []
unfolding split onto
split_last mark [] h = refl
split_last mark (b ∷ l) h = by (eqb b mark) h (split_last mark l)
  where
    by : (t : Bool) → suc (length l) ≤ cond (not t) (1 + before mark l) 0 → (length l ≤ before mark l → split mark l ≡ l ∷ [])
        → cond t ([] ∷ split mark l) (onto b (split mark l)) ≡ (b ∷ l) ∷ []
    by true h f = absurd (omega (arith, h))
    by false h f = ap (onto b) (f (omega (arith, h)))

-- the same at the first tab
pub fields_more : (l : List ℕ) → before 9 l < length l → fields l ≡ take (before 9 l) l ∷ fields (drop (before 9 l + 1) l)
fields_more l h = split_more 9 l h ∙ ap (λ (n : ℕ). take (before 9 l) l ∷ fields (drop n l)) (sym (add-one (before 9 l)))

-- there is always a part
pub some_part : (mark : ℕ) (l : List ℕ) → (first : List ℕ) × (rest : List (List ℕ)) × (split mark l ≡ first ∷ rest)
unfolding split onto
some_part mark [] = ([], [], refl)
some_part mark (b ∷ l) = by (eqb b mark) (some_part mark l)
  where
    by : (t : Bool) → (first : List ℕ) × (rest : List (List ℕ)) × (split mark l ≡ first ∷ rest)
        → (first : List ℕ) × (rest : List (List ℕ)) × (cond t ([] ∷ split mark l) (onto b (split mark l)) ≡ first ∷ rest)
    by true s = ([], split mark l, refl)
    by false s = (b ∷ s.0, s.1, ap (onto b) s.2)

-- ---- the place of the first tab, where there is one

module _ (text : List ℕ) where
  pub tab_none : None ≡ position (λ b. b == 9) text → fields text ≡ text ∷ []
  tab_none e = by (dec_lt (before 9 text) (length text))
    where
      by : Dec (before 9 text < length text) → fields text ≡ text ∷ []
      by (yes h) = absurd (none-some _ (rw (lt-ltb (before 9 text) (length text) h) at e))
      by (no h) = split_last 9 text (omega arith)

  module _ {at : ℕ} (e : Some at ≡ position (λ b. b == 9) text) where
    tab_found : (at ≡ before 9 text) × (at < length text)
    tab_found =
        let p = cond_some (ltb (before 9 text) (length text)) (before 9 text) at (sym e) in
        (sym p.1, omega (arith, p.1, ltb-true (before 9 text) (length text) p.0))

    pub tab_parts : PartedAt text (take at text) (take (length text - (at + 1)) (drop (at + 1) text))
    tab_parts =
        let p = tab_found in
        let w : take (length text - (at + 1)) (drop (at + 1) text) ≡ drop (at + 1) text =
        take_all (length text - (at + 1)) (drop (at + 1) text) (omega (arith, length-drop (at + 1) text)) in
        record {
          are = rw (w, p.0) (fields_more text (omega arith));
          size = rw w (omega (arith, length-take-le at text (omega arith), length-drop (at + 1) text));
        }
