-- The syndrome y that a salt and a text make (request C-12), and the call that makes it: its refusals in order, and each lent buffer at exit.
-- Assumes nothing.
use Rattle.std.specs.Prelude.{List, ◌++◌, ℕ, ◌+◌, eqb, ltb, length}
use Rattle.trits.specs.Trit.{Trit}
use Rattle.trits.specs.Planes.{ones_of, twos_of, words_for}
use Rattle.trits.specs.Refusal.{refuse, demand, at_exit}
use Rattle.packed.specs.Stream.{stream_row, too_short}
use Rattle.packed.specs.Calls.{most_trits}
use Rattle.shake.specs.Shake.{shake256}

-- the bytes of a salt
abbrev pub salt_bytes : ℕ
salt_bytes = 32

-- the salt, then the text, go through SHAKE256; for m trits at most m + 136 bytes of the output are looked at
unfoldable pub hashed : ℕ → List ℕ → List ℕ → List ℕ
hashed m salt text = shake256 (salt ++ text) (m + 136)

-- they are read into m trits as a supplied stream is
unfoldable pub hashed_row : ℕ → List ℕ → List ℕ → ℕ → Trit
hashed_row m salt text = stream_row m (hashed m salt text)

-- "else 6": where they give fewer
unfoldable pub hashed_refusal : ℕ → List ℕ → List ℕ → ℕ
hashed_refusal m salt text =
    refuse (too_short m (hashed m salt text)) 6
    0

-- ---- the call

-- what is lent: m, the salt, the text, and the planes as they are at entry
pub record Syndrome : Type 0 where
  pub m : ℕ
  pub salt : List ℕ
  pub text : List ℕ
  pub ones : List ℕ
  pub twos : List ℕ

abbrev pub syndrome_of : ℕ → List ℕ → List ℕ → List ℕ → List ℕ → Syndrome
syndrome_of m salt text ones twos = record { m = m; salt = salt; text = text; ones = ones; twos = twos }

-- 1, every length, that of the salt among them, then 6
unfoldable pub syndrome_refusal : Syndrome → ℕ
syndrome_refusal c =
    let m = c.m in
    refuse (ltb most_trits m) 1
    (demand (eqb (length c.ones) (words_for m)) 2
    (demand (eqb (length c.twos) (words_for m)) 2
    (demand (eqb (length c.salt) salt_bytes) 2
    (hashed_refusal m c.salt c.text))))

-- the planes at exit
unfoldable pub syndrome_ones : Syndrome → List ℕ
syndrome_ones c = at_exit (syndrome_refusal c) (ones_of (hashed_row c.m c.salt c.text) (words_for c.m)) c.ones

unfoldable pub syndrome_twos : Syndrome → List ℕ
syndrome_twos c = at_exit (syndrome_refusal c) (twos_of (hashed_row c.m c.salt c.text) (words_for c.m)) c.twos
