-- The three calls: the refusals of each in the paper's order ("Turned back by the state", last paragraph), and each lent buffer at exit. Assumes nothing.
-- What depends on the test of a pair of planes is defined with any other in its place, by a name that ends in `Under`.
use Rattle.std.specs.Prelude.{List, ℕ, eqb, ltb, length}
use Rattle.trits.specs.Planes.{trit_at, ones_of, twos_of, words_for}
use Rattle.trits.specs.Refusal.{refuse, demand, at_exit, PlanesTest, planes_refusal}
use Rattle.packed.specs.Packed.{bytes_for, packed_row, packed_bytes, packed_refusal}
use Rattle.packed.specs.Stream.{stream_row, too_short}

-- "the number of trits in a stream or packing call is 0 to 16,384, else 1"
abbrev pub most_trits : ℕ
most_trits = 16384

-- ---- pack: a row of m trits becomes bytes

-- what is lent: m, the row in planes, and the bytes as they are at entry
pub record Pack : Type 0 where
  pub m : ℕ
  pub ones : List ℕ
  pub twos : List ℕ
  pub bytes : List ℕ

abbrev pub pack_of : ℕ → List ℕ → List ℕ → List ℕ → Pack
pack_of m ones twos bytes = record { m = m; ones = ones; twos = twos; bytes = bytes }

-- 1, every length, then the row's contents: 4, 3
unfoldable pub pack_refusal_under : PlanesTest → Pack → ℕ
pack_refusal_under test c =
    let m = c.m in
    refuse (ltb most_trits m) 1
    (demand (eqb (length c.ones) (words_for m)) 2
    (demand (eqb (length c.twos) (words_for m)) 2
    (demand (eqb (length c.bytes) (bytes_for m)) 2
    (test c.ones c.twos 1 m))))

abbrev pub pack_refusal : Pack → ℕ
pack_refusal c = pack_refusal_under planes_refusal c

-- the bytes at exit
unfoldable pub pack_exit : Pack → List ℕ
pack_exit c = at_exit (pack_refusal c) (packed_bytes c.m (trit_at c.ones c.twos)) c.bytes

-- ---- unpack: bytes become a row of m trits

-- what is lent: m, the bytes, and the planes as they are at entry
pub record Unpack : Type 0 where
  pub m : ℕ
  pub bytes : List ℕ
  pub ones : List ℕ
  pub twos : List ℕ

abbrev pub unpack_of : ℕ → List ℕ → List ℕ → List ℕ → Unpack
unpack_of m bytes ones twos = record { m = m; bytes = bytes; ones = ones; twos = twos }

-- 1, every length, then the bytes: 5, 15
unfoldable pub unpack_refusal : Unpack → ℕ
unpack_refusal c =
    let m = c.m in
    refuse (ltb most_trits m) 1
    (demand (eqb (length c.bytes) (bytes_for m)) 2
    (demand (eqb (length c.ones) (words_for m)) 2
    (demand (eqb (length c.twos) (words_for m)) 2
    (packed_refusal m c.bytes))))

-- the planes at exit
unfoldable pub unpack_ones : Unpack → List ℕ
unpack_ones c = at_exit (unpack_refusal c) (ones_of (packed_row c.bytes) (words_for c.m)) c.ones

unfoldable pub unpack_twos : Unpack → List ℕ
unpack_twos c = at_exit (unpack_refusal c) (twos_of (packed_row c.bytes) (words_for c.m)) c.twos

-- ---- from_stream: a stream of any length becomes a row of m trits

-- what is lent: m, the stream, and the planes as they are at entry
pub record FromStream : Type 0 where
  pub m : ℕ
  pub bytes : List ℕ
  pub ones : List ℕ
  pub twos : List ℕ

abbrev pub stream_of : ℕ → List ℕ → List ℕ → List ℕ → FromStream
stream_of m bytes ones twos = record { m = m; bytes = bytes; ones = ones; twos = twos }

-- 1, every length, then 6
unfoldable pub stream_refusal : FromStream → ℕ
stream_refusal c =
    let m = c.m in
    refuse (ltb most_trits m) 1
    (demand (eqb (length c.ones) (words_for m)) 2
    (demand (eqb (length c.twos) (words_for m)) 2
    (refuse (too_short m c.bytes) 6
    0)))

-- the planes at exit
unfoldable pub stream_ones : FromStream → List ℕ
stream_ones c = at_exit (stream_refusal c) (ones_of (stream_row c.m c.bytes) (words_for c.m)) c.ones

unfoldable pub stream_twos : FromStream → List ℕ
stream_twos c = at_exit (stream_refusal c) (twos_of (stream_row c.m c.bytes) (words_for c.m)) c.twos
