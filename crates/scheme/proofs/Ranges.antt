-- What sizes in their ranges say. Assumes nothing.
use mathlib.Core.Path.{◌≡◌, refl, ap, ◌∙◌}
use mathlib.Core.Bool.{Bool, true, false, ◌&&◌, and-eq-true_iff}
use Prim.Native.Nat.{ℕ, ◌+◌, ◌-◌, ◌%◌, ◌≤◌, ◌<◌}
use native.Mathlib.Decide.{dec_lt}
use native.Mathlib.Omega.{arith}
use borrow.Author.Tests.{eqb-true, leb-true, lt-ltb, le-ltb, le-leb, lt-leb}
use lib.Dec.{eqb, leb, ltb}
use Rattle.scheme.specs.Sizes.{Sizes, half, places, dim, codim, gap_v, gap_u, gaps_fit, sizes_fit, sizes_fit_under}

pub record Ranges (z : Sizes) : Type 0 where
  pub even : places z ≡ z.n
  pub ku_low : z.ku < half z
  pub kv_low : z.kv < half z
  pub gu_low : gap_u z ≤ z.ku
  pub gv_low : gap_v z ≤ z.kv

pub sizes_fit_law : (z : Sizes) → sizes_fit z ≡ true → Ranges z
unfolding sizes_fit_under gaps_fit
sizes_fit_law z h =
    let a = (and-eq-true_iff (leb 4 z.n) _).0 h in
    let b = (and-eq-true_iff (leb z.n 16384) _).0 a.1 in
    let c = (and-eq-true_iff (eqb (z.n % 2) 0) _).0 b.1 in
    let d = (and-eq-true_iff (leb 1 z.ku) _).0 c.1 in
    let e = (and-eq-true_iff (leb z.ku (half z - 1)) _).0 d.1 in
    let f = (and-eq-true_iff (leb 1 z.kv) _).0 e.1 in
    let g = (and-eq-true_iff (leb z.kv (half z - 1)) _).0 f.1 in
    let i = (and-eq-true_iff (gaps_fit z) _).0 g.1 in
    let j = (and-eq-true_iff (leb (gap_u z) z.ku) _).0 i.0 in
    record {
      even = omega (arith, eqb-true (z.n % 2) 0 c.0);
      ku_low = omega (arith, leb-true 4 z.n a.0, leb-true z.ku (half z - 1) e.0);
      kv_low = omega (arith, leb-true 4 z.n a.0, leb-true z.kv (half z - 1) g.0);
      gu_low = leb-true (gap_u z) z.ku j.0;
      gv_low = leb-true (gap_v z) z.kv j.1;
    }

-- n-k and k make n
pub codim_dim : (z : Sizes) → Ranges z → codim z + dim z ≡ places z
codim_dim z r = omega (arith, r.ku_low, r.kv_low)

-- the tests as the code groups them, k_U and k_V being below N
abbrev pub ranges_tested : Sizes → Bool
ranges_tested z =
    ((((((leb 4 z.n && leb z.n 16384) && eqb (z.n % 2) 0) && (leb 1 z.ku && ltb z.ku (half z))) && (leb 1 z.kv && ltb z.kv (half z)))
    && leb z.gu z.ku) && leb z.gv z.kv)
    && (leb 1 z.w && leb z.w z.n)

pub sizes_tested : (z : Sizes) → ranges_tested z ≡ sizes_fit z
unfolding sizes_fit_under gaps_fit
sizes_tested z = by (leb 4 z.n) refl
  where
    grouped : (b c d e f g h i j k : Bool)
        → (((((((true && b) && c) && (d && e)) && (f && g)) && h) && i) && (j && k)) ≡ (b && (c && (d && (e && (f && (g && ((h && i) && (j && k))))))))
    grouped false c d e f g h i j k = refl
    grouped true false d e f g h i j k = refl
    grouped true true false e f g h i j k = refl
    grouped true true true false f g h i j k = refl
    grouped true true true true false g h i j k = refl
    grouped true true true true true false h i j k = refl
    grouped true true true true true true false i j k = refl
    grouped true true true true true true true i j k = refl

    below : (k : ℕ) → leb 4 z.n ≡ true → ltb k (half z) ≡ leb k (half z - 1)
    below k h = at (dec_lt k (half z))
      where
        at : Dec (k < half z) → ltb k (half z) ≡ leb k (half z - 1)
        at (yes d) = rw (lt-ltb k (half z) d, le-leb k (half z - 1) (omega arith))
        at (no d) = rw (le-ltb k (half z) (omega arith), lt-leb k (half z - 1) (omega (arith, leb-true 4 z.n h)))

    by : (t : Bool) → leb 4 z.n ≡ t → ranges_tested z ≡ sizes_fit z
    by false h = rw h
    by true h =
        rw (h, below z.ku h, below z.kv h)
        (grouped (leb z.n 16384) (eqb (z.n % 2) 0) (leb 1 z.ku) (leb z.ku (half z - 1)) (leb 1 z.kv) (leb z.kv (half z - 1))
        (leb (gap_u z) z.ku) (leb (gap_v z) z.kv) (leb 1 z.w) (leb z.w z.n))

-- and one after another: each answer is the one before and the next test
pub tested_in_turn : (z : Sizes) (n even ku kv gu gv : Bool) {w : Bool}
    → n ≡ (leb 4 z.n && leb z.n 16384) → even ≡ (n && eqb (z.n % 2) 0)
    → ku ≡ (even && (leb 1 z.ku && ltb z.ku (half z))) → kv ≡ (ku && (leb 1 z.kv && ltb z.kv (half z)))
    → gu ≡ (kv && leb z.gu z.ku) → gv ≡ (gu && leb z.gv z.kv) → w ≡ (gv && (leb 1 z.w && leb z.w z.n)) → w ≡ sizes_fit z
tested_in_turn z _ _ _ _ _ _ a b c d e f g =
    g ∙ ap (λ x. x && (leb 1 z.w && leb z.w z.n)) (f ∙ ap (λ x. x && leb z.gv z.kv) (e ∙ ap (λ x. x && leb z.gu z.ku)
    (d ∙ ap (λ x. x && (leb 1 z.kv && ltb z.kv (half z))) (c ∙ ap (λ x. x && (leb 1 z.ku && ltb z.ku (half z)))
    (b ∙ ap (λ x. x && eqb (z.n % 2) 0) a))))) ∙ sizes_tested z
