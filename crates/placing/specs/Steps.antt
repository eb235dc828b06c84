-- A row that is being written, and what placing bytes in rows asks of bytes, masks and planes. No rule of the paper: code is tied to it. Assumes nothing.
use Rattle.std.specs.Prelude.{◌≡◌, false, List, ℕ, ◌+◌, ◌*◌, ◌%◌, ◌≤◌, ◌<◌, length}
use Rattle.trits.specs.Trit.{Trit, t0, one, two, trit_of}
use Rattle.trits.specs.Planes.{words_for, Holds}
use Rattle.packed.specs.Packed.{bytes_for, digit_of, packed_row, bad_byte, packed_refusal}
use Rattle.packed.specs.Stream.{kept}
use Rattle.packed.specs.Steps.{piece_of, byte_masks, PlaneWritten, gives}
use Rattle.placing.specs.declared.writer.Writer.{Writer}

-- planes of n words each that are written with v up to the place that w has reached
pub record Written (v : ℕ → Trit) (n : ℕ) (ones twos : List ℕ) (w : Writer) : Type 0 where
  pub in_ones : PlaneWritten (λ p. one (v p)) n w.at ones w.ones
  pub in_twos : PlaneWritten (λ p. two (v p)) n w.at twos w.twos

-- a piece of so many trits appended: whatever row was written so far, and has these trits next, is written on
pub record Appended (ones twos : List ℕ) (w : Writer) (piece count : ℕ) (ones_after twos_after : List ℕ) (r : Writer) : Type 0 where
  pub place : r.at ≡ w.at + count
  pub goes_on : {n : ℕ} (v : ℕ → Trit) → Written v n ones twos w → piece ≡ piece_of (λ k. v (w.at + k)) count → Written v n ones_after twos_after r

-- the same of the trits that a byte of a stream gives a row of m trits
pub record BytePut (m b : ℕ) (ones twos : List ℕ) (w : Writer) (ones_after twos_after : List ℕ) (r : Writer) : Type 0 where
  pub place : r.at ≡ w.at + gives m w.at b
  pub goes_on : {n : ℕ} (v : ℕ → Trit) → Written v n ones twos w → ((k : ℕ) → k < gives m w.at b → v (w.at + k) ≡ trit_of (digit_of b k))
      → Written v n ones_after twos_after r

-- the end of a row: whatever row was written so far, and is 0 from there on, stands in the planes
pub record Finished (ones twos : List ℕ) (w : Writer) (ones_after twos_after : List ℕ) : Type 0 where
  pub holds : {n : ℕ} (v : ℕ → Trit) → Written v n ones twos w → ((p : ℕ) → w.at ≤ p → v p ≡ t0) → Holds ones_after twos_after n v

-- two planes, a place in them, and a piece of so many trits
pub record ForAppend (ones twos : List ℕ) (at count : ℕ) : Type 0 where
  pub twos_size : length twos ≡ length ones
  pub room : at < 64 * length ones
  pub few : count ≤ 32
  pub small : length ones ≤ 65536

-- two planes, and the place where a row ends: in their last word, or past it
pub record ForFinish (ones twos : List ℕ) (at : ℕ) : Type 0 where
  pub twos_size : length twos ≡ length ones
  pub last : 64 * length ones < at + 64

-- ---- packed bytes

-- the masks, bytes of packed trits, and up to six of them
pub record ForPieceOf (masks bytes : List ℕ) (from to : ℕ) : Type 0 where
  pub is_masks : masks ≡ byte_masks
  pub good : bad_byte bytes ≡ false
  pub ordered : from ≤ to
  pub end : to ≤ length bytes
  pub six : to ≤ from + 6

-- the masks, bytes of packed trits, and planes with room for a trit of the last byte
pub record ForWriteBytes (masks bytes ones twos : List ℕ) : Type 0 where
  pub is_masks : masks ≡ byte_masks
  pub good : bad_byte bytes ≡ false
  pub twos_size : length twos ≡ length ones
  pub room : 5 * length bytes < 64 * length ones + 5
  pub small : length ones ≤ 65536

-- and some of the bytes are written
pub record ForWriteLast (masks bytes ones twos : List ℕ) (begun : Writer) : Type 0 where
  pub bytes_fit : ForWriteBytes masks bytes ones twos
  pub whole : begun.at % 5 ≡ 0
  pub within : begun.at ≤ 5 * length bytes
  pub so_far : Written (packed_row bytes) (length ones) ones twos begun

-- a row of m trits, and their packed bytes, which passed
pub record ForWritePacked (m : ℕ) (bytes ones twos : List ℕ) : Type 0 where
  pub ones_size : length ones ≡ words_for m
  pub twos_size : length twos ≡ length ones
  pub bytes_size : length bytes ≡ bytes_for m
  pub small : m ≤ 16384
  pub not_refused : packed_refusal m bytes ≡ 0

-- ---- a stream

-- the masks, and planes with room for m trits, of which less is written
pub record ForPutNext (masks : List ℕ) (m : ℕ) (ones twos : List ℕ) (at : ℕ) : Type 0 where
  pub is_masks : masks ≡ byte_masks
  pub twos_size : length twos ≡ length ones
  pub place : at < m
  pub trits_fit : m ≤ 64 * length ones
  pub small : length ones ≤ 65536

-- the masks, planes with room for m trits, and enough bytes that are kept
pub record ForPutStream (masks : List ℕ) (m : ℕ) (bytes ones twos : List ℕ) : Type 0 where
  pub is_masks : masks ≡ byte_masks
  pub twos_size : length twos ≡ length ones
  pub enough : m ≤ 5 * length (kept bytes)
  pub trits_fit : m ≤ 64 * length ones
  pub small : length ones ≤ 65536

-- a row of m trits, and enough bytes that are kept
pub record ForWriteStream (m : ℕ) (bytes ones twos : List ℕ) : Type 0 where
  pub ones_size : length ones ≡ words_for m
  pub twos_size : length twos ≡ length ones
  pub enough : m ≤ 5 * length (kept bytes)
  pub small : m ≤ 16384
