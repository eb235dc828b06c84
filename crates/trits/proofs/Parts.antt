-- Parts of planes, as `&s[a..e]` and `&mut s[a..e]` lend them: what a part holds, and what the whole holds when the part is back. Assumes nothing.
use mathlib.Core.Path.{◌≡◌, refl, sym, ap, ap₂, ◌∙◌, subst, fun_ext}
use mathlib.Core.List.{List, [], ◌++◌, append-nil}
use Prim.Native.Nat.{ℕ, ◌+◌, ◌-◌, ◌*◌, ◌/◌, ◌%◌, ◌≤◌, ◌<◌}
use native.Mathlib.Decide.{dec_lt}
use native.Mathlib.Omega.{arith}
use lib.ListN.{length, get_or, take, drop, length-drop, drop_of_length-le, get_or-append, get_or-eq_default}
use lib.Seq.{length-take-le, get_or-take, get_or-drop, get_or-append-add, take_all, drop-drop}
use lib.Bits.{bit_and}
use borrow.Rule.Slice.PartMut.{mid_of, put_mid, same_len_mid}
use Rattle.trits.specs.Trit.{Trit, zip_v, zip_at}
use Rattle.trits.specs.Planes.{bit, trit, trit_at, Row, Reads}
use Rattle.trits.specs.Rows.{put_words}
use Rattle.trits.proofs.Reading.{trit_at_word}
use Rattle.trits.proofs.WordOps.{second_op}
use Rattle.trits.proofs.Patches.{Patched, zip_at_here, zip_below, zip_above, stretch_reads}

module _ (a k : ℕ) (xs : List ℕ) (h : a + k ≤ length xs) where
  pub length_mid : length (mid_of a k xs) ≡ k
  length_mid = length-take-le k (drop a xs) (omega (arith, length-drop a xs))

  pub get_d_mid : (j : ℕ) → j < k → get_or (mid_of a k xs) j 0 ≡ get_or xs (a + j) 0
  get_d_mid j l = get_or-take k (drop a xs) j 0 l ∙ get_or-drop a xs j 0

  -- the list when the part is back is one of which that stretch was replaced
  pub put_patched : (ys : List ℕ) → length ys ≡ k → Patched (λ j. get_or ys j 0) a k xs (put_mid a k xs ys)
  put_patched ys e =
      let la : length (take a xs) ≡ a = length-take-le a xs (omega arith) in
      let rest : List ℕ = ys ++ drop k (drop a xs) in
      let at : (j : ℕ) → get_or (put_mid a k xs ys) (a + j) 0 ≡ get_or rest j 0 =
      λ j. subst (λ (i : ℕ). get_or (take a xs ++ rest) (i + j) 0 ≡ get_or rest j 0) la (get_or-append-add (take a xs) rest j 0) in
      record {
        kept = same_len_mid a k xs ys (e ∙ sym length_mid);
        new = λ j l. at j ∙ get_or-append ys (drop k (drop a xs)) 0 j (omega arith);
        below = λ q l. get_or-append (take a xs) rest 0 q (omega arith) ∙ get_or-take a xs q 0 l;
        above = λ q l.
            let i = q - (a + k) in
            let e₁ : q ≡ a + (k + i) = omega arith in
            let e₂ : a + (k + i) ≡ q = sym e₁ in
            ap (λ (z : ℕ). get_or (put_mid a k xs ys) z 0) e₁ ∙ at (k + i)
            ∙ subst (λ (z : ℕ). get_or rest (z + i) 0 ≡ get_or (drop k (drop a xs)) i 0) e (get_or-append-add ys (drop k (drop a xs)) i 0)
            ∙ get_or-drop k (drop a xs) i 0 ∙ get_or-drop a xs (k + i) 0 ∙ ap (λ (z : ℕ). get_or xs z 0) e₂;
      }

-- a part from a on to the end, back with a row at its front
pub put_front : (a : ℕ) (row xs ys : List ℕ) → a + length row ≤ length xs
    → ys ≡ row ++ drop (length row) (take (length xs - a) (drop a xs)) → put_mid a (length xs - a) xs ys ≡ put_words a xs row
unfolding put_words
put_front a row xs ys h e =
    let t : take (length xs - a) (drop a xs) ≡ drop a xs = take_all (length xs - a) (drop a xs) (simp length-drop (omega arith)) in
    let z : drop (length xs - a) (drop a xs) ≡ [] = drop_of_length-le (drop a xs) {i = length xs - a} (simp length-drop (omega arith)) in
    rw (z, e, t, append-nil, drop-drop)

module _ {xs ts : List ℕ} (r : Row xs ts) (a k : ℕ) (hx : a + k ≤ length xs) where
  ht : a + k ≤ length ts
  ht = omega (arith, r.same)

  mid_word : (j : ℕ) → Dec (j < k) → bit_and (get_or (mid_of a k xs) j 0) (get_or (mid_of a k ts) j 0) ≡ 0
  mid_word j (yes l) = ap₂ bit_and (get_d_mid a k xs hx j l) (get_d_mid a k ts ht j l) ∙ r.apart.word (a + j)
  mid_word j (no f) = ap (λ (x : ℕ). bit_and x (get_or (mid_of a k ts) j 0)) (get_or-eq_default (mid_of a k xs) 0 (omega (arith, length_mid a k xs hx)))

  -- a part of a row is a row
  pub part_row : Row (mid_of a k xs) (mid_of a k ts)
  part_row = record {
    same = length_mid a k ts ht ∙ sym (length_mid a k xs hx);
    apart = record { word = λ j. mid_word j (dec_lt j k) };
  }

  -- when the part is back, the whole has the part's trits in the place of that stretch's
  pub part_back : {ys zs : List ℕ} {v : ℕ → Trit} → Reads ys zs k v
      → Reads (put_mid a k xs ys) (put_mid a k ts zs) (length xs) (zip_at (λ x y. y) (trit_at xs ts) v a k)
  part_back {ys} {zs} g =
      let s = stretch_reads second_op r.apart g.row.apart (put_patched a k xs hx ys g.size) (put_patched a k ts ht zs (g.row.same ∙ g.size))
      r.same in
      record { row = s.row; size = s.size; trits = s.trits ∙ ap (λ (u : ℕ → Trit). zip_at (λ x y. y) (trit_at xs ts) u a k) g.trits }

-- a part's places are those from 64 * a on
pub part_trit : (xs ts : List ℕ) (a k : ℕ) → a + k ≤ length xs → a + k ≤ length ts → (q : ℕ) → q < 64 * k
    → trit_at (mid_of a k xs) (mid_of a k ts) q ≡ trit_at xs ts (64 * a + q)
part_trit xs ts a k hx ht q l =
    trit_at_word (mid_of a k xs) (mid_of a k ts) q (q / 64) (q % 64) refl refl
    ∙ ap₂ (λ (x y : ℕ). trit (bit (q % 64) x) (bit (q % 64) y)) (get_d_mid a k xs hx (q / 64) (omega arith)) (get_d_mid a k ts ht (q / 64) (omega arith))
    ∙ sym (trit_at_word xs ts (64 * a + q) (a + q / 64) (q % 64) (omega arith) (omega arith))

-- an operation on the part is the operation on the stretch
part_zip : {xs ts : List ℕ} (r : Row xs ts) (a k : ℕ) → a + k ≤ length xs → (op : Trit → Trit → Trit) (v : ℕ → Trit)
    → zip_at (λ x y. y) (trit_at xs ts) (zip_v op (trit_at (mid_of a k xs) (mid_of a k ts)) v) a k ≡ zip_at op (trit_at xs ts) v a k
part_zip {xs} {ts} r a k hx op v = fun_ext (λ p. by p (dec_lt p (64 * a)) (dec_lt p (64 * (a + k))))
  where
    u : ℕ → Trit
    u = trit_at xs ts

    m : ℕ → Trit
    m = zip_v op (trit_at (mid_of a k xs) (mid_of a k ts)) v

    by : (p : ℕ) → Dec (p < 64 * a) → Dec (p < 64 * (a + k)) → zip_at (λ x y. y) u m a k p ≡ zip_at op u v a k p
    by p (yes l) d = zip_below (λ x y. y) u m a k p l ∙ sym (zip_below op u v a k p l)
    by p (no l) (no g) = zip_above (λ x y. y) u m a k p (omega arith) ∙ sym (zip_above op u v a k p (omega arith))
    by p (no l) (yes g) =
        let q = p - 64 * a in
        let e : p ≡ 64 * a + q = omega arith in
        ap (zip_at (λ x y. y) u m a k) e ∙ zip_at_here (λ x y. y) u m a k q (omega arith)
        ∙ ap (λ (x : Trit). op x (v q)) (part_trit xs ts a k hx (omega (arith, r.same)) q (omega arith))
        ∙ sym (zip_at_here op u v a k q (omega arith)) ∙ ap (zip_at op u v a k) (sym e)
