-- What inner functions ask of a secret and of orders, and the flags of the order's test. Assumes nothing.
use Rattle.std.specs.Prelude.{◌≡◌, Bool, not, cond, List, ℕ, ◌+◌, ◌*◌, ◌≤◌, ◌<◌, eqb, ltb, length, get_or, set}
use Rattle.trits.specs.Trit.{any_to}
use Rattle.trits.specs.Planes.{Row}
use Rattle.matrix.specs.Linear.{elem}
use Rattle.grid.specs.Steps.{Rows}
use Rattle.scheme.specs.declared.sizes.Sizes.{Sizes}
use Rattle.scheme.specs.Sizes.{ru, rv}
use Rattle.calls.specs.Lent.{Planes, half_words}

-- a stretch of a row in two planes
pub record ForHasZero (ones twos : List ℕ) (from m : ℕ) : Type 0 where
  pub twos_size : length twos ≡ length ones
  pub trits_fit : from + m ≤ 64 * length ones
  pub stretch_small : from + m ≤ 65536

-- the lengths of H_U, H_V, b and c, two planes each, are those that the sizes say
pub record SecretLengths (z : Sizes) (a b c d e f g h : ℕ) : Type 0 where
  pub hu1 : a ≡ ru z * half_words z
  pub hu2 : b ≡ ru z * half_words z
  pub hv1 : c ≡ rv z * half_words z
  pub hv2 : d ≡ rv z * half_words z
  pub b1 : e ≡ half_words z
  pub b2 : f ≡ half_words z
  pub c1 : g ≡ half_words z
  pub c2 : h ≡ half_words z

-- those of a secret's planes
abbrev pub Lengths : Sizes → Planes → Type 0
Lengths z i =
    SecretLengths z (length i.hu.ones) (length i.hu.twos) (length i.hv.ones) (length i.hv.twos)
    (length i.b.ones) (length i.b.twos) (length i.c.ones) (length i.c.twos)

-- what a secret whose lengths and contents are right has: rows that can be read, of the right sizes
pub record Readable (z : Sizes) (i : Planes) : Type 0 where
  pub hu : Rows i.hu.ones i.hu.twos (ru z) (half_words z)
  pub hv : Rows i.hv.ones i.hv.twos (rv z) (half_words z)
  pub b : Row i.b.ones i.b.twos
  pub c : Row i.c.ones i.c.twos
  pub b_size : length i.b.ones ≡ half_words z
  pub c_size : length i.c.ones ≡ half_words z

-- ---- 7: the test of an order, by a flag for each place

-- 1 for yes
abbrev pub flag : Bool → ℕ
flag t = cond t 1 0

-- the flags of the places below n say which stand in the list
pub record Marked (n : ℕ) (l flags : List ℕ) : Type 0 where
  pub place : (v : ℕ) → v < n → get_or flags v 0 ≡ flag (elem v l)

-- the flag of place v is set, where v is below n
unfoldable pub mark_place : ℕ → ℕ → List ℕ → List ℕ
mark_place v n flags = cond (ltb v n) (set flags v 1) flags

-- every flag below n is set
unfoldable pub all_set : ℕ → List ℕ → Bool
all_set n flags = not (any_to (λ q. eqb (get_or flags q 0) 0) n)
