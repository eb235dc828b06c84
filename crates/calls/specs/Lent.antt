-- What both calls of the editor's half are lent: the secret in planes ("The secret pairs"), its
-- lengths and its contents ("Turned back by the input"). Assumes nothing.
-- What depends on the test of a pair of planes is defined with any other in its place, by a name that ends in `Under`.
use Rattle.std.specs.Prelude.{Bool, not, ◌||◌, List, ℕ, ◌*◌, eqb, length}
use Rattle.trits.specs.Planes.{Pair, pair_of, trit_at, words_for}
use Rattle.trits.specs.Rows.{matrix_at}
use Rattle.trits.specs.Refusal.{refuse, first, PlanesTest, planes_refusal}
use Rattle.scheme.specs.declared.sizes.Sizes.{Sizes}
use Rattle.scheme.specs.Sizes.{half, ru, rv}
use Rattle.scheme.specs.Secret.{Secret, has_zero}
use Rattle.calls.specs.declared.lent.SecretPlanes.{SecretPlanes}

-- ---- the secret

-- the planes of H_U, H_V, b and c
pub record Planes : Type 0 where
  pub hu : Pair
  pub hv : Pair
  pub b : Pair
  pub c : Pair

abbrev pub planes : List ℕ → List ℕ → List ℕ → List ℕ → List ℕ → List ℕ → List ℕ → List ℕ → Planes
planes uo ut vo vt bo bt co ct = record { hu = pair_of uo ut; hv = pair_of vo vt; b = pair_of bo bt; c = pair_of co ct }

-- the planes behind what a call is lent
abbrev pub planes_of : SecretPlanes → Planes
planes_of s = planes s.hu.ones.now s.hu.twos.now s.hv.ones.now s.hv.twos.now s.b.ones.now s.b.twos.now s.c.ones.now s.c.twos.now

-- the words of a row of H_U, H_V, b or c
abbrev pub half_words : Sizes → ℕ
half_words z = words_for (half z)

-- the secret that they hold
abbrev pub secret_of : Sizes → Planes → Secret
secret_of z i = record {
  hu = matrix_at (half_words z) i.hu.ones i.hu.twos;
  hv = matrix_at (half_words z) i.hv.ones i.hv.twos;
  b = trit_at i.b.ones i.b.twos;
  c = trit_at i.c.ones i.c.twos;
}

-- ---- 2: a length differs from what the sizes say

-- one of two planes has another length than m
abbrev pub pair_differs : ℕ → ℕ → ℕ → Bool
pair_differs m ones twos = not (eqb ones m) || not (eqb twos m)

-- the lengths of H_U, H_V, b and c
unfoldable pub secret_differs : Sizes → ℕ → ℕ → ℕ → ℕ → ℕ → ℕ → ℕ → ℕ → Bool
secret_differs z hu1 hu2 hv1 hv2 b1 b2 c1 c2 =
    pair_differs (ru z * half_words z) hu1 hu2
    || (pair_differs (rv z * half_words z) hv1 hv2
    || (pair_differs (half_words z) b1 b2
    || pair_differs (half_words z) c1 c2))

-- the lengths of a secret's planes
abbrev pub differs : Sizes → Planes → Bool
differs z i =
    secret_differs z (length i.hu.ones) (length i.hu.twos) (length i.hv.ones) (length i.hv.twos)
    (length i.b.ones) (length i.b.twos) (length i.c.ones) (length i.c.twos)

-- ---- 4, 3 and 8: the contents, buffer after buffer

-- H_U, H_V, b, c (4, 3 in each), and 8 for c
unfoldable pub secret_refusal_under : PlanesTest → Sizes → Planes → ℕ
secret_refusal_under test z i =
    first (test i.hu.ones i.hu.twos (ru z) (half z))
    (first (test i.hv.ones i.hv.twos (rv z) (half z))
    (first (test i.b.ones i.b.twos 1 (half z))
    (first (test i.c.ones i.c.twos 1 (half z))
    (refuse (has_zero (half z) (trit_at i.c.ones i.c.twos)) 8
    0))))

abbrev pub secret_refusal : Sizes → Planes → ℕ
secret_refusal z i = secret_refusal_under planes_refusal z i
