-- Bytes written one stretch after another, and the digits of a number. Assumes nothing.
use mathlib.Core.Path.{◌≡◌, sym, ap, ap₂, ◌∙◌}
use mathlib.Core.Bool.{Bool, true, false, cond}
use mathlib.Core.List.{List, [], ◌∷◌, ◌++◌, append_assoc}
use Prim.Native.Nat.{ℕ, zero, suc, ◌+◌, ◌*◌, ◌/◌, ◌%◌, ◌^◌, ◌≤◌, ◌<◌}
use native.Mathlib.Nat.{not-suc-le-zero}
use native.Mathlib.Numerals.{add-one}
use native.Mathlib.Decide.{dec_lt}
use native.Mathlib.Omega.{arith}
use borrow.Author.Tests.{lt-ltb, le-ltb}
use borrow.Rule.Slice.PartMut.{put_mid}
use lib.Dec.{ltb, lit<}
use lib.ListN.{length, set, take, drop, length-append}
use lib.Seq.{set_split, take_at, drop_at, drop-drop, length-take-le}
use Rattle.trits.specs.Rows.{put_words}
use Rattle.trits.specs.Refusal.{number_of}
use Rattle.trits.specs.declared.refusal.Refusal.{Refusal}
use Rattle.trits.specs.declared.refusal.Refusal.TheVariants.{Size, Length, BothPlanes, PastEnd, PackedByte, StreamEnd, NoPermutation, ZeroTrit, RankU}
use Rattle.trits.specs.declared.refusal.Refusal.TheVariants.{RankV, Line, FirstPartV, FirstPartU, Weight, PackedPastEnd, NoKey, WholeKey}
use Rattle.trits.specs.declared.refusal.Refusal.TheVariants.{OtherKey}
use Rattle.text.specs.Numbers.{decimal_to, decimal}
use Rattle.text.specs.Answers.{printed, yes_no, ones_plus_twos, refused_word, line_refused, sign_refused, verdict_answer}
use Rattle.text.specs.Steps.{pair, refused_end}

-- one byte
pub put_one : (l : List ℕ) (at b : ℕ) → at < length l → set l at b ≡ put_words at l (b ∷ [])
unfolding put_words
put_one l at b h = set_split l at b h ∙ ap (λ (j : ℕ). take at l ++ (b ∷ drop j l)) (sym (add-one at))

-- a part of as many bytes as there are to write
pub put_part : (a : ℕ) (row xs : List ℕ) {k : ℕ} {ys : List ℕ} → k ≡ length row → ys ≡ row → put_mid a k xs ys ≡ put_words a xs row
unfolding put_words
put_part a row xs e f = rw (e, f, drop-drop)

module _ (l : List ℕ) (a : ℕ) (x : List ℕ) where
  -- a stretch written after another is one stretch
  pub put_then : {m k : List ℕ} (b : ℕ) (y : List ℕ) → a + (length x + length y) ≤ length l → b ≡ a + length x → m ≡ put_words a l x → k ≡ put_words b m y
      → k ≡ put_words a l (x ++ y)
  unfolding put_words
  put_then {m} {k} b y h e f g =
      let p = take a l ++ x in
      let q : m ≡ p ++ drop (a + length x) l = f ∙ sym (append_assoc (take a l) x (drop (a + length x) l)) in
      let n : length p ≡ b = length-append (take a l) x ∙ ap (λ (j : ℕ). j + length x) (length-take-le a l (omega arith)) ∙ sym e in
      let t : take b m ≡ p = ap (take b) q ∙ take_at p (drop (a + length x) l) b n in
      let d : drop b m ≡ drop (a + length x) l = ap (drop b) q ∙ drop_at p (drop (a + length x) l) b n in
      let w : a + length x + length y ≡ a + length (x ++ y) = omega (arith, length-append x y) in
      let z : drop (b + length y) m ≡ drop (a + length (x ++ y)) l =
      sym (drop-drop (length y) b m) ∙ ap (drop (length y)) d ∙ drop-drop (length y) (a + length x) l
      ∙ ap (λ (j : ℕ). drop j l) w in
      g ∙ ap₂ (λ (u v : List ℕ). u ++ (y ++ v)) t z
      ∙ append_assoc (take a l) x (y ++ drop (a + length (x ++ y)) l)
      ∙ ap (λ (u : List ℕ). take a l ++ u) (sym (append_assoc x y (drop (a + length (x ++ y)) l)))

-- what a call that writes a stretch answers: the place after it, and the bytes at exit
abbrev pub Wrote : List ℕ → ℕ → List ℕ → ℕ → List ℕ → Type 0
Wrote l a x r m = (r ≡ a + length x) × (m ≡ put_words a l x)

pub wrote_then : (l : List ℕ) (a : ℕ) (x y : List ℕ) {b r : ℕ} {m k : List ℕ} → a + (length x + length y) ≤ length l → Wrote l a x b m → Wrote m b y r k
    → Wrote l a (x ++ y) r k
wrote_then l a x y h f g = (omega (arith, f.0, g.0, length-append x y), put_then l a x _ y h f.0 f.1 g.1)

pub wrote_as : (l : List ℕ) (a : ℕ) {m x y : List ℕ} {r : ℕ} → x ≡ y → Wrote l a x r m → Wrote l a y r m
wrote_as l a e f = (f.0 ∙ ap (λ (u : List ℕ). a + length u) e, f.1 ∙ ap (put_words a l) e)

-- the same from the front on
pub wrote_front : (l x : List ℕ) {m : List ℕ} {r : ℕ} → Wrote l 0 x r m → (r ≡ length x) × (m ≡ put_words 0 l x)
wrote_front l x f = (omega (arith, f.0), f.1)

-- ---- the digits of a number

pub decimal_small : (n : ℕ) → n < 10 → (48 + n) ∷ [] ≡ decimal n
unfolding decimal decimal_to
decimal_small n h = rw (lt-ltb n 10 h)

-- more digits allowed than there are make no difference
enough : (f g n : ℕ) → n < f → n < g → decimal_to f n ≡ decimal_to g n
unfolding decimal_to
enough zero g n h k = absurd (not-suc-le-zero h)
enough (suc f) zero n h k = absurd (not-suc-le-zero k)
enough (suc f) (suc g) n h k = by (dec_lt n 10) (λ l. enough f g (n / 10) (omega arith) (omega arith))
  where
    by : Dec (n < 10) → (10 ≤ n → decimal_to f (n / 10) ≡ decimal_to g (n / 10))
        → cond (ltb n 10) ((48 + n) ∷ []) (decimal_to f (n / 10) ++ ((48 + n % 10) ∷ [])) ≡ cond (ltb n 10) ((48 + n) ∷ [])
        (decimal_to g (n / 10) ++ ((48 + n % 10) ∷ []))
    by (yes l) e = rw (lt-ltb n 10 l)
    by (no l) e = ap (λ (u : List ℕ). cond (ltb n 10) ((48 + n) ∷ []) (u ++ ((48 + n % 10) ∷ []))) (e (omega arith))

pub decimal_more : (n : ℕ) → 10 ≤ n → decimal (n / 10) ++ ((48 + n % 10) ∷ []) ≡ decimal n
unfolding decimal decimal_to
decimal_more n h = rw (le-ltb n 10 h) (ap (λ (u : List ℕ). u ++ ((48 + n % 10) ∷ [])) (enough (suc (n / 10)) n (n / 10) (omega arith) (omega arith)))

-- ---- how many there are

pub length_more : (n : ℕ) → 10 ≤ n → length (decimal n) ≡ length (decimal (n / 10)) + 1
length_more n h = sym (ap length (decimal_more n h)) ∙ length-append (decimal (n / 10)) ((48 + n % 10) ∷ [])

abbrev AtMost : ℕ → ℕ → Type 0
AtMost b k = (n : ℕ) → n < b → length (decimal n) ≤ k

one_more : (b k : ℕ) → 0 < k → AtMost b k → AtMost (10 * b) (k + 1)
one_more b k p f n h = by (dec_lt n 10)
  where
    by : Dec (n < 10) → length (decimal n) ≤ k + 1
    by (yes l) = omega (arith, ap length (decimal_small n l))
    by (no l) = omega (arith, length_more n (omega arith), f (n / 10) (omega arith))

-- 10, 100, 1,000, ..
abbrev tens : ℕ → ℕ
tens zero = 10
tens (suc j) = 10 * tens j

up : (j : ℕ) → AtMost (tens j) (j + 1)
up zero n l = omega (arith, ap length (decimal_small n l))
up (suc j) n l = omega (arith, one_more (tens j) (j + 1) (omega arith) (up j) n l)

-- a number of 64 bits has at most twenty
pub twenty_digits : (n : ℕ) → n < 2 ^ 64 → length (decimal n) ≤ 20
twenty_digits n h = up 19 n (omega (arith, h))

-- a refusal's number fits a word, so that it takes no more digits; said of each refusal, for who prints one in another crate
number_small : (refusal : Refusal) → number_of refusal < 2 ^ 64
number_small Size = lit< tt
number_small Length = lit< tt
number_small BothPlanes = lit< tt
number_small PastEnd = lit< tt
number_small PackedByte = lit< tt
number_small StreamEnd = lit< tt
number_small NoPermutation = lit< tt
number_small ZeroTrit = lit< tt
number_small RankU = lit< tt
number_small RankV = lit< tt
number_small Line = lit< tt
number_small FirstPartV = lit< tt
number_small FirstPartU = lit< tt
number_small Weight = lit< tt
number_small PackedPastEnd = lit< tt
number_small NoKey = lit< tt
number_small WholeKey = lit< tt
number_small OtherKey = lit< tt

pub refusal_digits : (refusal : Refusal) → length (decimal (number_of refusal)) ≤ 20
refusal_digits refusal = twenty_digits (number_of refusal) (number_small refusal)

-- ---- the answers

pub pair_front : (key formula : ℕ) (x : List ℕ) → pair key formula ++ x ≡ decimal key ++ (9 ∷ decimal formula ++ (9 ∷ x))
unfolding pair
pair_front key formula x =
    append_assoc (decimal key) (9 ∷ decimal formula ++ (9 ∷ [])) x ∙ ap (λ (u : List ℕ). decimal key ++ (9 ∷ u)) (append_assoc (decimal formula) (9 ∷ []) x)

pub pair_length : (key formula : ℕ) → length (pair key formula) ≡ length (decimal key) + length (decimal formula) + 2
unfolding pair
pair_length key formula =
    omega (arith, length-append (decimal key) (9 ∷ decimal formula ++ (9 ∷ [])), length-append (decimal formula) (9 ∷ []))

module _ (l : List ℕ) (key formula : ℕ) (h : 42 ≤ length l) (hk : length (decimal key) ≤ 20) (hf : length (decimal formula) ≤ 20) where
  pub pair_wrote : {a b c r : ℕ} {m n o p : List ℕ} → Wrote l 0 (decimal key) a m → Wrote m a (9 ∷ []) b n → Wrote n b (decimal formula) c o
      → Wrote o c (9 ∷ []) r p
      → ((r ≡ length (pair key formula)) × (r ≤ 42)) × (p ≡ put_words 0 l (pair key formula))
  unfolding pair
  pair_wrote f g i j =
      let k = decimal key in
      let q = decimal formula in
      let u = wrote_then l 0 k (9 ∷ []) (omega arith) f g in
      let v = wrote_then l 0 (k ++ (9 ∷ [])) q (omega (arith, length-append k (9 ∷ []))) u i in
      let w = wrote_then l 0 (k ++ (9 ∷ []) ++ q) (9 ∷ []) (omega (arith, length-append k (9 ∷ []), length-append (k ++ (9 ∷ [])) q)) v j in
      let e : k ++ (9 ∷ []) ++ q ++ (9 ∷ []) ≡ pair key formula = append_assoc (k ++ (9 ∷ [])) q (9 ∷ []) ∙ append_assoc k (9 ∷ []) (q ++ (9 ∷ [])) in
      let z = wrote_front l (pair key formula) (wrote_as l 0 e w) in
      ((z.0, omega (arith, z.0, pair_length key formula)), z.1)

pub refused_wrote : (l : List ℕ) (at refusal : ℕ) → at + 24 ≤ length l → length (decimal refusal) ≤ 20 → {a b r : ℕ} {m n p : List ℕ}
    → Wrote l at (45 ∷ 9 ∷ 114 ∷ []) a m
    → Wrote m a (decimal refusal) b n → Wrote n b (10 ∷ []) r p → Wrote l at (refused_end refusal) r p
unfolding refused_end refused_word
refused_wrote l at refusal h hr f g i =
    let d = decimal refusal in
    let u = wrote_then l at (45 ∷ 9 ∷ 114 ∷ []) d (omega arith) f g in
    wrote_then l at ((45 ∷ 9 ∷ 114 ∷ []) ++ d) (10 ∷ []) (omega (arith, length-append (45 ∷ 9 ∷ 114 ∷ []) d)) u i

counts_length : (ones twos : ℕ) → length (ones_plus_twos ones twos) ≡ length (decimal ones) + length (decimal twos) + 1
unfolding ones_plus_twos
counts_length ones twos = omega (arith, length-append (decimal ones) (43 ∷ decimal twos))

pub counts_wrote : (l : List ℕ) (at ones twos : ℕ) → at + 41 ≤ length l → length (decimal ones) ≤ 20 → length (decimal twos) ≤ 20
    → {a b r : ℕ} {m n p : List ℕ}
    → Wrote l at (decimal ones) a m → Wrote m a (43 ∷ []) b n → Wrote n b (decimal twos) r p
    → ((r ≡ at + length (ones_plus_twos ones twos)) × (r ≤ at + 41)) × (p ≡ put_words at l (ones_plus_twos ones twos))
unfolding ones_plus_twos
counts_wrote l at ones twos h ho ht f g i =
    let d = decimal ones in
    let e = decimal twos in
    let u = wrote_then l at d (43 ∷ []) (omega arith) f g in
    let v = wrote_as l at (append_assoc d (43 ∷ []) e) (wrote_then l at (d ++ (43 ∷ [])) e (omega (arith, length-append d (43 ∷ []))) u i) in
    ((v.0, omega (arith, v.0, counts_length ones twos)), v.1)

refused_length : (refusal : ℕ) → length (refused_end refusal) ≡ length (decimal refusal) + 4
unfolding refused_end refused_word
refused_length refusal = omega (arith, length-append (decimal refusal) (10 ∷ []))

module _ (l : List ℕ) (h : 96 ≤ length l) where
  pub line_wrote : (refusal : ℕ) → length (decimal refusal) ≤ 20 → {a r : ℕ} {m p : List ℕ} → Wrote l 0 (45 ∷ 9 ∷ 45 ∷ 9 ∷ []) a m
      → Wrote m a (refused_end refusal) r p
      → (r ≡ length (line_refused refusal)) × (p ≡ put_words 0 l (line_refused refusal))
  unfolding line_refused printed refused_end
  line_wrote refusal hr f g = wrote_front l (line_refused refusal)
      (wrote_then l 0 (45 ∷ 9 ∷ 45 ∷ 9 ∷ []) (refused_end refusal) (omega (arith, refused_length refusal)) f g)

  module _ (key formula : ℕ) where
    pub sign_wrote : (refusal : ℕ) → length (decimal refusal) ≤ 20 → {a r : ℕ} {m p : List ℕ} → ((a ≡ length (pair key formula)) × (a ≤ 42))
        × (m ≡ put_words 0 l (pair key formula))
        → Wrote m a (refused_end refusal) r p → (r ≡ length (sign_refused key formula refusal)) × (p ≡ put_words 0 l (sign_refused key formula refusal))
    unfolding sign_refused printed refused_end
    sign_wrote refusal hr f g =
        wrote_front l (sign_refused key formula refusal) (wrote_as l 0 (pair_front key formula (refused_end refusal)) (
        wrote_then l 0 (pair key formula) (refused_end refusal) (omega (arith, f.0, refused_length refusal)) (omega (arith, f.0), f.1) g
        ))

    pub verdict_wrote : (ones twos : ℕ) (t : Bool) → {a b c r : ℕ} {m n o p : List ℕ}
        → ((a ≡ length (pair key formula)) × (a ≤ 42)) × (m ≡ put_words 0 l (pair key formula))
        → ((b ≡ a + length (ones_plus_twos ones twos)) × (b ≤ a + 41)) × (n ≡ put_words a m (ones_plus_twos ones twos))
        → Wrote n b (9 ∷ []) c o → Wrote o c (yes_no t ++ (10 ∷ [])) r p
        → (r ≡ length (verdict_answer key formula ones twos t)) × (p ≡ put_words 0 l (verdict_answer key formula ones twos t))
    unfolding verdict_answer printed
    verdict_wrote ones twos t f g i j =
        let d = ones_plus_twos ones twos in
        let x = pair key formula in
        let y = yes_no t ++ (10 ∷ []) in
        let u = wrote_then l 0 x d (omega (arith, f.0, g.0)) (omega (arith, f.0), f.1) (g.0.0, g.1) in
        let v = wrote_then l 0 (x ++ d) (9 ∷ []) (omega (arith, f.0, g.0, length-append x d)) u i in
        let w = wrote_then l 0 (x ++ d ++ (9 ∷ [])) y (omega (arith, f.0, g.0, word_length t, length-append x d, length-append (x ++ d) (9 ∷ []))) v j in
        let e : x ++ d ++ (9 ∷ []) ++ y ≡ x ++ (d ++ (9 ∷ y)) = append_assoc (x ++ d) (9 ∷ []) y ∙ append_assoc x d (9 ∷ y) in
        wrote_front l (verdict_answer key formula ones twos t) (wrote_as l 0 (e ∙ pair_front key formula (d ++ (9 ∷ y))) w)
      where
        word_length : (t : Bool) → length (yes_no t ++ (10 ∷ [])) ≤ 4
        word_length true = omega arith
        word_length false = omega arith
