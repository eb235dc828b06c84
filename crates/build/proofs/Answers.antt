-- The call's answer by its tests, and what is known once they have passed. Assumes nothing.
use mathlib.Core.Path.{◌≡◌, refl, ap, ◌∙◌}
use mathlib.Core.Bool.{Bool, true, false, cond, ◌||◌, or_assoc}
use mathlib.Core.List.{List}
use Prim.Native.Nat.{ℕ, ◌+◌, ◌*◌}
use lib.Dec.{eqb, lit<}
use lib.ListN.{length}
use Rattle.std.specs.Int.{div_ceil}
use Rattle.trits.specs.Planes.{zero_words}
use Rattle.trits.specs.Refusal.{demand, first, space_exit}
use Rattle.trits.proofs.Refusals.{passed_first, passed_demand, left_cleared, clears_demand, clears_none}
use Rattle.trits.proofs.Refusals.{Leaves, leaves_none, leaves_demand, leaves_first}
use Rattle.trits.proofs.Tests.{or_false_both}
use Rattle.matrix.specs.Orders.{Order, is_order}
use Rattle.matrix.proofs.Orders.{order_test}
use Rattle.matrix.specs.Linear.{rank, range}
use Rattle.scheme.specs.declared.sizes.Sizes.{Sizes}
use Rattle.scheme.specs.declared.sizes.Shape.{Shape}
use Rattle.scheme.specs.Sizes.{places, dim, sizes_fit, half, ru, rv, shape_of}
use Rattle.scheme.specs.Secret.{Secret}
use Rattle.scheme.specs.Build.{build_refusal}
use Rattle.calls.specs.Lent.{secret_of, pair_differs, secret_refusal}
use Rattle.calls.specs.BuildCall.{BuildCall, key_row_words, build_work_words, key_differs, build_lengths_differ, build_answer, build_answer_under}
use Rattle.build_release.proofs.Released.{row_words}
use Rattle.calls.proofs.Secrets.{pair_same, differs, Lengths, secret_lengths, secret_leaves}

-- ---- the answer

-- the contents of the secret, and the starting order
abbrev pub contents : Sizes → BuildCall → ℕ
contents z i = first (secret_refusal z i.secret) (demand (is_order (places z) i.start) 7 0)

module _ (z : Sizes) (i : BuildCall) where
  pub answer_size : sizes_fit z ≡ false → 1 ≡ build_answer z i
  unfolding build_answer_under
  answer_size e = rw e

  module _ (e : sizes_fit z ≡ true) where
    pub answer_length : build_lengths_differ z i ≡ true → 2 ≡ build_answer z i
    unfolding build_answer_under
    answer_length f = rw (e, f)

    module _ (f : build_lengths_differ z i ≡ false) where
      chain : first (secret_refusal z i.secret) (demand (is_order (places z) i.start) 7 (build_refusal z (secret_of z i.secret))) ≡ build_answer z i
      unfolding build_answer_under
      chain = rw (e, f)

      pub answer_contents : {x : ℕ} → x ≡ contents z i → (x ≡ 0 → ⊥) → x ≡ build_answer z i
      unfolding first
      answer_contents {x} g h = g ∙ by (eqb (secret_refusal z i.secret) 0) (is_order (places z) i.start) (λ y. h (g ∙ y)) ∙ chain
        where
          by : (a b : Bool) → (cond a (demand b 7 0) (secret_refusal z i.secret) ≡ 0 → ⊥)
              → cond a (demand b 7 0) (secret_refusal z i.secret) ≡ cond a (demand b 7 (build_refusal z (secret_of z i.secret)))
              (secret_refusal z i.secret)
          by true true k = absurd (k refl)
          by true false k = refl
          by false b k = refl

      pub answer_ranks : contents z i ≡ 0 → build_refusal z (secret_of z i.secret) ≡ build_answer z i
      unfolding first
      answer_ranks g =
          let a = passed_first (secret_refusal z i.secret) _ g in
          let b = passed_demand (is_order (places z) i.start) 7 0 (lit< tt) a.1 in
          by (is_order (places z) i.start) b.0 (secret_refusal z i.secret) a.0 ∙ chain
        where
          by : (t : Bool) → t ≡ true → (x : ℕ) → x ≡ 0
              → build_refusal z (secret_of z i.secret) ≡ first x (demand t 7 (build_refusal z (secret_of z i.secret)))
          by t u x y = rw (u, y)

-- ---- the working space

-- a refusal of the contents leaves it
pub contents_leaves : (z : Sizes) (i : BuildCall) → Leaves (contents z i)
contents_leaves z i = leaves_first _ _ (secret_leaves z i.secret) (leaves_demand (is_order (places z) i.start) 7 0 refl leaves_none)

-- after the ranks it is 0
pub work_ended : (z : Sizes) (s : Secret) (w : List ℕ) → zero_words (length w) ≡ space_exit (build_refusal z s) w
unfolding build_refusal
work_ended z s w =
    left_cleared w (clears_demand (eqb (rank (ru z) (half z) s.hu (range (half z))) (ru z)) 9 _ refl
    (clears_demand (eqb (rank (rv z) (half z) s.hv (range (half z))) (rv z)) 10 0 refl clears_none))

-- ---- lengths that do not differ

-- the tests as the code makes them, from the shape of the sizes: each answer is the one before or the next test
pub key_differs_in_turn : (z : Sizes) {s : Shape} → s ≡ shape_of z → (n p k1 k2 w1 w2 : ℕ) (a b : Bool) {c : Bool}
    → a ≡ pair_differs (s.half + s.half) n p
    → b ≡ (a || pair_differs ((z.ku + z.kv) * div_ceil (s.ru + s.rv) 64) k1 k2)
    → c ≡ (b || pair_differs ((s.ru + s.rv + 243) * (s.words + s.words)) w1 w2)
    → c ≡ key_differs z n p k1 k2 w1 w2
unfolding key_differs
key_differs_in_turn z {s} e n p k1 k2 w1 w2 a b {c} ha hb hc =
    hc
    ∙ ap (λ x. x || pair_differs ((s.ru + s.rv + 243) * (s.words + s.words)) w1 w2)
    (hb ∙ ap (λ x. x || pair_differs ((z.ku + z.kv) * div_ceil (s.ru + s.rv) 64) k1 k2) ha)
    ∙ ap tests e
    ∙ ap (λ m. (pair_differs (places z) n p || pair_differs (dim z * m) k1 k2) || pair_differs (build_work_words z) w1 w2)
    (row_words z {s = shape_of z} refl refl)
    ∙ or_assoc (pair_differs (places z) n p) (pair_differs (dim z * key_row_words z) k1 k2) (pair_differs (build_work_words z) w1 w2)
  where
    tests : Shape → Bool
    tests s =
        (pair_differs (s.half + s.half) n p || pair_differs ((z.ku + z.kv) * div_ceil (s.ru + s.rv) 64) k1 k2)
        || pair_differs ((s.ru + s.rv + 243) * (s.words + s.words)) w1 w2

pub record KeyLengths (z : Sizes) (i j k l m n : ℕ) : Type 0 where
  pub start : i ≡ places z
  pub p : j ≡ places z
  pub k1 : k ≡ dim z * key_row_words z
  pub k2 : l ≡ dim z * key_row_words z
  pub w1 : m ≡ build_work_words z
  pub w2 : n ≡ build_work_words z

key_same : (z : Sizes) (s p k1 k2 w1 w2 : ℕ) → key_differs z s p k1 k2 w1 w2 ≡ false → KeyLengths z s p k1 k2 w1 w2
unfolding key_differs
key_same z s p k1 k2 w1 w2 e =
    let E = or_false_both (pair_differs (places z) s p) _ e in
    let F = or_false_both (pair_differs (dim z * key_row_words z) k1 k2) _ E.1 in
    let o = pair_same _ s p E.0 in
    let k = pair_same _ k1 k2 F.0 in
    let w = pair_same _ w1 w2 F.1 in
    record { start = o.0; p = o.1; k1 = k.0; k2 = k.1; w1 = w.0; w2 = w.1 }

module _ (z : Sizes) (i : BuildCall) {t : Bool} where
  -- the lengths one after another are those of the record
  pub same_lengths : (differs z i.secret
      || key_differs z (length i.start) (length i.p) (length i.key.ones) (length i.key.twos)
      (length i.work.ones) (length i.work.twos)) ≡ t
      → build_lengths_differ z i ≡ t
  unfolding build_lengths_differ
  same_lengths e = e

module _ (z : Sizes) (i : BuildCall) (e : build_lengths_differ z i ≡ false) where
  pub lengths_secret : Lengths z i.secret
  unfolding build_lengths_differ
  lengths_secret = secret_lengths z i.secret _ e

  pub lengths_key : KeyLengths z (length i.start) (length i.p) (length i.key.ones) (length i.key.twos) (length i.work.ones)
      (length i.work.twos)
  unfolding build_lengths_differ
  lengths_key = key_same z _ _ _ _ _ _ (or_false_both (differs z i.secret) _ e).1

-- ---- contents that are not refused

pub contents_passed : (z : Sizes) (i : BuildCall) → contents z i ≡ 0 → (secret_refusal z i.secret ≡ 0) × Order (places z) i.start
contents_passed z i g =
    let a = passed_first (secret_refusal z i.secret) _ g in
    let b = passed_demand (is_order (places z) i.start) 7 0 (lit< tt) a.1 in
    (a.0, order_test (places z) i.start b.0)
