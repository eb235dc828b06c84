-- The secret's lengths and contents: what tests that have passed show. Assumes nothing.
use mathlib.Core.Path.{◌≡◌, refl, sym, ap, ◌∙◌}
use mathlib.Core.Bool.{Bool, true, false, not, ◌||◌, or_assoc}
use Prim.Native.Nat.{ℕ, ◌+◌, ◌*◌}
use native.Mathlib.Nat.{zero-add}
use borrow.Author.Tests.{eqb-true}
use mir.Syntax.{w64}
use mir.Val.{Fits}
use lib.Dec.{eqb}
use lib.ListN.{get_or}
use Rattle.trits.specs.Planes.{trit_at}
use Rattle.trits.specs.Refusal.{planes_refusal}
use Rattle.trits.proofs.Tests.{any_cong, or_false_both}
use Rattle.trits.proofs.Refusals.{first_stops, first_goes, passed_first, planes_row}
use Rattle.trits.proofs.Refusals.{Leaves, leaves_none, leaves_refuse, leaves_first, leaves_planes}
use Rattle.matrix.specs.Linear.{Vector}
use Rattle.matrix.proofs.Field.{not-false}
use Rattle.scheme.specs.declared.sizes.Sizes.{Sizes}
use Rattle.scheme.specs.declared.sizes.Shape.{Shape}
use Rattle.scheme.specs.Sizes.{half, ru, rv, shape_of}
pub use Rattle.calls.specs.Lent.{differs}
pub use Rattle.calls.specs.Steps.{Lengths}
use Rattle.calls.specs.Lent.{Planes, half_words, pair_differs, secret_differs, secret_refusal, secret_refusal_under}
use Rattle.calls.specs.Steps.{SecretLengths, Readable}
use Rattle.calls.proofs.Marks.{is_zero}
use Rattle.scheme.specs.Secret.{has_zero}

-- ---- lengths that do not differ

pub pair_same : (m o t : ℕ) → pair_differs m o t ≡ false → (o ≡ m) × (t ≡ m)
pair_same m o t e =
    let a = or_false_both (not (eqb o m)) (not (eqb t m)) e in
    (eqb-true o m (not-false (eqb o m) a.0), eqb-true t m (not-false (eqb t m) a.1))

secret_same : (z : Sizes) (hu1 hu2 hv1 hv2 b1 b2 c1 c2 : ℕ) → secret_differs z hu1 hu2 hv1 hv2 b1 b2 c1 c2 ≡ false
    → SecretLengths z hu1 hu2 hv1 hv2 b1 b2 c1 c2
unfolding secret_differs
secret_same z hu1 hu2 hv1 hv2 b1 b2 c1 c2 e =
    let A = or_false_both (pair_differs (ru z * half_words z) hu1 hu2) _ e in
    let B = or_false_both (pair_differs (rv z * half_words z) hv1 hv2) _ A.1 in
    let C = or_false_both (pair_differs (half_words z) b1 b2) _ B.1 in
    let u = pair_same _ hu1 hu2 A.0 in
    let v = pair_same _ hv1 hv2 B.0 in
    let b = pair_same _ b1 b2 C.0 in
    let c = pair_same _ c1 c2 C.1 in
    record { hu1 = u.0; hu2 = u.1; hv1 = v.0; hv2 = v.1; b1 = b.0; b2 = b.1; c1 = c.0; c2 = c.1 }

-- of a call whose lengths do not differ, t being the others
pub secret_lengths : (z : Sizes) (i : Planes) (t : Bool) → (differs z i || t) ≡ false → Lengths z i
secret_lengths z i t e = secret_same z _ _ _ _ _ _ _ _ (or_false_both (differs z i) t e).0

-- the tests as the code makes them, from the shape of the sizes: each answer is the one before or the next test
pub secret_differs_in_turn : (z : Sizes) (hu1 hu2 hv1 hv2 b1 b2 c1 c2 : ℕ) {s : Shape} → s ≡ shape_of z → (u v b : Bool) {c : Bool}
    → u ≡ pair_differs (s.ru * s.words) hu1 hu2
    → v ≡ (u || pair_differs (s.rv * s.words) hv1 hv2)
    → b ≡ (v || pair_differs s.words b1 b2)
    → c ≡ (b || pair_differs s.words c1 c2)
    → c ≡ secret_differs z hu1 hu2 hv1 hv2 b1 b2 c1 c2
unfolding secret_differs
secret_differs_in_turn z hu1 hu2 hv1 hv2 b1 b2 c1 c2 {s} e u v b {c} hu hv hb hc =
    hc
    ∙ ap (λ x. x || pair_differs s.words c1 c2)
    (hb ∙ ap (λ x. x || pair_differs s.words b1 b2)
    (hv ∙ ap (λ x. x || pair_differs (s.rv * s.words) hv1 hv2) hu))
    ∙ ap tests e
    ∙ or_assoc (U || V) B C ∙ or_assoc U V (B || C)
  where
    tests : Shape → Bool
    tests s =
        ((pair_differs (s.ru * s.words) hu1 hu2 || pair_differs (s.rv * s.words) hv1 hv2)
        || pair_differs s.words b1 b2)
        || pair_differs s.words c1 c2

    U : Bool
    U = pair_differs (ru z * half_words z) hu1 hu2

    V : Bool
    V = pair_differs (rv z * half_words z) hv1 hv2

    B : Bool
    B = pair_differs (half_words z) b1 b2

    C : Bool
    C = pair_differs (half_words z) c1 c2

-- ---- zeros, looked for from the first place on

pub zero_from : (m : ℕ) (v : Vector) → has_zero m (λ j. v (0 + j)) ≡ has_zero m v
unfolding has_zero
zero_from m v = any_cong m (is_zero (λ j. v (0 + j))) (is_zero v) (λ q h. ap (is_zero v) (zero-add q))

-- ---- the contents, by the tests one after another

module _ (z : Sizes) (i : Planes) where
  abbrev pub refusal_h_u : ℕ
  refusal_h_u = planes_refusal i.hu.ones i.hu.twos (ru z) (half z)

  abbrev pub refusal_h_v : ℕ
  refusal_h_v = planes_refusal i.hv.ones i.hv.twos (rv z) (half z)

  abbrev pub refusal_b : ℕ
  refusal_b = planes_refusal i.b.ones i.b.twos 1 (half z)

  abbrev pub refusal_c : ℕ
  refusal_c = planes_refusal i.c.ones i.c.twos 1 (half z)

  abbrev pub zero_in_c : Bool
  zero_in_c = has_zero (half z) (trit_at i.c.ones i.c.twos)

-- each test as the code makes it, from the shape of the sizes
module _ (z : Sizes) (i : Planes) {s : Shape} (e : s ≡ shape_of z) {x : ℕ} where
  pub hu_told : x ≡ planes_refusal i.hu.ones i.hu.twos s.ru s.half → x ≡ refusal_h_u z i
  hu_told f = f ∙ ap (λ (s : Shape). planes_refusal i.hu.ones i.hu.twos s.ru s.half) e

  pub hv_told : x ≡ planes_refusal i.hv.ones i.hv.twos s.rv s.half → x ≡ refusal_h_v z i
  hv_told f = f ∙ ap (λ (s : Shape). planes_refusal i.hv.ones i.hv.twos s.rv s.half) e

  pub b_told : x ≡ planes_refusal i.b.ones i.b.twos 1 s.half → x ≡ refusal_b z i
  b_told f = f ∙ ap (λ (s : Shape). planes_refusal i.b.ones i.b.twos 1 s.half) e

  pub c_told : x ≡ planes_refusal i.c.ones i.c.twos 1 s.half → x ≡ refusal_c z i
  c_told f = f ∙ ap (λ (s : Shape). planes_refusal i.c.ones i.c.twos 1 s.half) e

pub zero_told : (z : Sizes) (i : Planes) {s : Shape} → s ≡ shape_of z → {t u : Bool}
    → t ≡ has_zero s.half (λ j. trit_at i.c.ones i.c.twos (0 + j)) → t ≡ u → zero_in_c z i ≡ u
zero_told z i {s} e f g =
    sym (zero_from (half z) (trit_at i.c.ones i.c.twos)) ∙ sym (ap (λ (s : Shape). has_zero s.half (λ j. trit_at i.c.ones i.c.twos (0 + j))) e) ∙ sym f ∙ g

module _ (z : Sizes) (i : Planes) {x : ℕ} (a : x ≡ refusal_h_u z i) where
  pub secret_hu : (x ≡ 0 → ⊥) → x ≡ secret_refusal z i
  unfolding secret_refusal_under
  secret_hu f = first_stops _ a f

  module _ (f : x ≡ 0) {y : ℕ} (b : y ≡ refusal_h_v z i) where
    pub secret_hv : (y ≡ 0 → ⊥) → y ≡ secret_refusal z i
    unfolding secret_refusal_under
    secret_hv g = first_goes a f (first_stops _ b g)

    module _ (g : y ≡ 0) {u : ℕ} (c : u ≡ refusal_b z i) where
      pub secret_b : (u ≡ 0 → ⊥) → u ≡ secret_refusal z i
      unfolding secret_refusal_under
      secret_b h = first_goes a f (first_goes b g (first_stops _ c h))

      module _ (h : u ≡ 0) {v : ℕ} (d : v ≡ refusal_c z i) where
        pub secret_c : (v ≡ 0 → ⊥) → v ≡ secret_refusal z i
        unfolding secret_refusal_under
        secret_c k = first_goes a f (first_goes b g (first_goes c h (first_stops _ d k)))

        module _ (k : v ≡ 0) where
          pub secret_zero : zero_in_c z i ≡ true → 8 ≡ secret_refusal z i
          unfolding secret_refusal_under
          secret_zero e = first_goes a f (first_goes b g (first_goes c h (first_goes d k (rw e))))

          pub secret_good : zero_in_c z i ≡ false → 0 ≡ secret_refusal z i
          unfolding secret_refusal_under
          secret_good e = first_goes a f (first_goes b g (first_goes c h (first_goes d k (rw e))))

-- each refusal of a secret leaves the working space
pub secret_leaves : (z : Sizes) (i : Planes) → Leaves (secret_refusal z i)
unfolding secret_refusal_under
secret_leaves z i =
    leaves_first _ _ (leaves_planes _ _ _ _) (leaves_first _ _ (leaves_planes _ _ _ _)
    (leaves_first _ _ (leaves_planes _ _ _ _) (leaves_first _ _ (leaves_planes _ _ _ _) (leaves_refuse (zero_in_c z i) 8 0 refl leaves_none))))

-- ---- contents that are not refused

pub readable : (z : Sizes) (i : Planes)
    → Lengths z i → secret_refusal z i ≡ 0
    → ((j : ℕ) → Fits w64 (get_or i.hu.ones j 0)) → ((j : ℕ) → Fits w64 (get_or i.hu.twos j 0))
    → ((j : ℕ) → Fits w64 (get_or i.hv.ones j 0)) → ((j : ℕ) → Fits w64 (get_or i.hv.twos j 0))
    → ((j : ℕ) → Fits w64 (get_or i.b.ones j 0)) → ((j : ℕ) → Fits w64 (get_or i.b.twos j 0))
    → ((j : ℕ) → Fits w64 (get_or i.c.ones j 0)) → ((j : ℕ) → Fits w64 (get_or i.c.twos j 0)) → Readable z i
unfolding secret_refusal_under
readable z i l e f1 f2 f3 f4 f5 f6 f7 f8 =
    let A = passed_first (refusal_h_u z i) _ e in
    let B = passed_first (refusal_h_v z i) _ A.1 in
    let C = passed_first (refusal_b z i) _ B.1 in
    let D = passed_first (refusal_c z i) _ C.1 in
    record {
      hu = record { row = planes_row (ru z) (half z) A.0 (l.hu2 ∙ sym l.hu1) f1 f2; size = l.hu1 };
      hv = record { row = planes_row (rv z) (half z) B.0 (l.hv2 ∙ sym l.hv1) f3 f4; size = l.hv1 };
      b = planes_row 1 (half z) C.0 (l.b2 ∙ sym l.b1) f5 f6;
      c = planes_row 1 (half z) D.0 (l.c2 ∙ sym l.c1) f7 f8;
      b_size = l.b1;
      c_size = l.c1;
    }
