-- A row that is being written, both planes together. Assumes nothing.
use mathlib.Core.Path.{◌≡◌, refl, ap, ◌∙◌}
use mathlib.Core.List.{List}
use Prim.Native.Nat.{ℕ, ◌+◌, ◌-◌, ◌*◌, ◌/◌, ◌%◌, ◌^◌, ◌≤◌, ◌<◌}
use native.Mathlib.Decide.{dec_lt}
use native.Mathlib.Omega.{arith}
use lib.Bits.{bit_or}
use lib.ListN.{length, set}
use Rattle.trits.specs.Trit.{Trit, one, two}
use Rattle.trits.specs.Planes.{ones_of, twos_of, words_for, Reads}
use Rattle.trits.proofs.Reading.{one_lt, two_lt, holds_reads}
use Rattle.packed.specs.Stream.{kept, stream_row}
use Rattle.packed.proofs.Pieces.{piece_ones, piece_twos, plane_none, plane_begun, plane_full, plane_ended, plane_rest}
use Rattle.packed.proofs.Putting.{Stands, stands_more, stands_all, stream_ended}
use Rattle.placing.specs.Steps.{Written, Appended, Finished}
use Rattle.placing.specs.declared.writer.Writer.{Writer}

-- nothing is written: w is as it is by default
pub none_written : (v : ℕ → Trit) (ones twos : List ℕ) {w : Writer} → length twos ≡ length ones → (w.at ≡ 0) × ((w.ones ≡ 0) × (w.twos ≡ 0))
    → Written v (length ones) ones twos w
none_written v ones twos {w} e d =
    let at = d.0 in
    let in_ones = d.1.0 in
    let in_twos = d.1.1 in record {
      in_ones = rw (at, in_ones) (plane_none (λ p. one (v p)) (λ p. one_lt (v p)) (length ones) ones refl);
      in_twos = rw (at, in_twos) (plane_none (λ p. two (v p)) (λ p. two_lt (v p)) (length ones) twos e);
    }

-- ---- a piece appended

module _ (ones twos : List ℕ) (w : Writer) (piece count : ℕ) (few : count ≤ 32) where
  -- the words with it
  abbrev word_ones : ℕ
  word_ones = bit_or (piece % 2 ^ 32 * 2 ^ (w.at % 64) % 2 ^ 64) w.ones

  abbrev word_twos : ℕ
  word_twos = bit_or (piece / 2 ^ 32 * 2 ^ (w.at % 64) % 2 ^ 64) w.twos

  -- they are still begun
  pub appended_begun : w.at % 64 + count < 64
      → Appended ones twos w piece count ones twos (record { at = w.at + count; ones = word_ones; twos = word_twos })
  appended_begun h = record {
    place = refl;
    goes_on = λ v s e. record {
      in_ones = plane_begun (λ p. one (v p)) (λ p. one_lt (v p)) s.in_ones count (piece % 2 ^ 32) (ap (λ (x : ℕ). x % 2 ^ 32) e ∙ piece_ones _ count few) h;
      in_twos = plane_begun (λ p. two (v p)) (λ p. two_lt (v p)) s.in_twos count (piece / 2 ^ 32) (ap (λ (x : ℕ). x / 2 ^ 32) e ∙ piece_twos _ count few) h;
    };
  }

  -- they are full
  pub appended_full : 64 ≤ w.at % 64 + count → w.at < 64 * length ones
      → Appended ones twos w piece count (set ones (w.at / 64) word_ones) (set twos (w.at / 64) word_twos)
      (record { at = w.at + count; ones = piece % 2 ^ 32 / 2 ^ (64 - w.at % 64); twos = piece / 2 ^ 32 / 2 ^ (64 - w.at % 64) })
  appended_full h room = record {
    place = refl;
    goes_on = λ v s e. record {
      in_ones = plane_full (λ p. one (v p)) (λ p. one_lt (v p)) s.in_ones count (piece % 2 ^ 32) (ap (λ (x : ℕ). x % 2 ^ 32) e ∙ piece_ones _ count few)
          h (omega arith) (omega (arith, room, s.in_ones.size));
      in_twos = plane_full (λ p. two (v p)) (λ p. two_lt (v p)) s.in_twos count (piece / 2 ^ 32) (ap (λ (x : ℕ). x / 2 ^ 32) e ∙ piece_twos _ count few)
          h (omega arith) (omega (arith, room, s.in_ones.size));
    };
  }

-- ---- the end of a row

module _ (ones twos : List ℕ) (w : Writer) (last : 64 * length ones < w.at + 64) where
  pub finished_full : length ones ≤ w.at / 64 → Finished ones twos w ones twos
  unfolding ones_of twos_of
  finished_full l = record {
    holds = λ v s z. record {
      ones_are = plane_ended (λ p. one (v p)) (λ p. one_lt (v p)) s.in_ones (λ p h. ap one (z p h)) (omega (arith, last, s.in_ones.size))
          (omega (arith, l, s.in_ones.size));
      twos_are = plane_ended (λ p. two (v p)) (λ p. two_lt (v p)) s.in_twos (λ p h. ap two (z p h)) (omega (arith, last, s.in_ones.size))
          (omega (arith, l, s.in_ones.size));
    };
  }

  pub finished_begun : w.at / 64 < length ones → Finished ones twos w (set ones (w.at / 64) w.ones) (set twos (w.at / 64) w.twos)
  unfolding ones_of twos_of
  finished_begun l = record {
    holds = λ v s z. record {
      ones_are = plane_rest (λ p. one (v p)) (λ p. one_lt (v p)) s.in_ones (λ p h. ap one (z p h)) (omega (arith, last, s.in_ones.size))
          (omega (arith, l, s.in_ones.size));
      twos_are = plane_rest (λ p. two (v p)) (λ p. two_lt (v p)) s.in_twos (λ p h. ap two (z p h)) (omega (arith, last, s.in_ones.size))
          (omega (arith, l, s.in_ones.size));
    };
  }

-- ---- a stream

-- at the end of a stream that gives enough
pub stands_end : {m : ℕ} {bytes : List ℕ} {at i : ℕ} → Stands m bytes at i → length bytes ≤ i → m ≤ 5 * length (kept bytes) → at ≡ m
stands_end {m} {bytes} {at} {i} s e h = by (dec_lt at m)
  where
    by : Dec (at < m) → at ≡ m
    by (yes l) = absurd (omega (arith, stands_more s l h))
    by (no f) = stands_all s (omega arith)

-- a row of m trits of a stream, all of them written and the row finished
pub stream_read : {ones twos ones_after twos_after : List ℕ} {n : ℕ} {w : Writer} (m : ℕ) (bytes : List ℕ) → n ≡ words_for m → w.at ≡ m
    → Written (stream_row m bytes) n ones twos w → Finished ones twos w ones_after twos_after → Reads ones_after twos_after n (stream_row m bytes)
stream_read {ones_after = o} {twos_after = t} {n = n} m bytes e place s f =
    holds_reads o t n (stream_row m bytes) (λ p l. stream_ended m bytes p (omega arith))
    (f.holds (stream_row m bytes) s (λ p l. stream_ended m bytes p (omega arith)))
