-- What the weighing asks of the key, y, s and the working space. No rule of the paper: code is tied to it. Assumes nothing.
use Rattle.std.specs.Prelude.{◌≡◌, List, ℕ, ◌+◌, ◌*◌, ◌≤◌, ◌<◌, length}
use Rattle.trits.specs.Trit.{Trit, t0, one, two}
use Rattle.trits.specs.Planes.{Row, trit_at}
use Rattle.trits.specs.Refusal.{planes_refusal}
use Rattle.trits.specs.declared.Counts.{Counts}
use Rattle.packed.specs.Packed.{bytes_for, byte_table, packed_refusal}
use Rattle.held_key.specs.Steps.{Whole, Work}
use Rattle.held_key.specs.declared.state.Held.{Held}
use Rattle.held_key.specs.Held.{row_trits, row_words}
use Rattle.check_tests.specs.Check.{planes_lengths, planes_contents, packed_lengths, packed_contents}

-- a whole key, the word under work, a row of the key and a trit
pub record ForTakeRow (held : Held) (ones twos : List ℕ) (i t : ℕ) (work_ones work_twos : List ℕ) : Type 0 where
  pub whole : Whole held ones twos
  pub readable : Row ones twos
  pub work : Work held work_ones work_twos
  pub row_in : i < held.k
  pub trit : t < 3

-- two rows are counted together; one trit more is counted
abbrev pub add_counts : Counts → Counts → Counts
add_counts a b = record { ones = a.ones + b.ones; twos = a.twos + b.twos }

abbrev pub more_counts : Counts → Trit → Counts
more_counts c x = record { ones = c.ones + one x; twos = c.twos + two x }

-- a whole key, the word under work, and s in planes
pub record ForTakeRows (held : Held) (ones twos s_ones st work_ones work_twos : List ℕ) : Type 0 where
  pub whole : Whole held ones twos
  pub readable : Row ones twos
  pub work : Work held work_ones work_twos
  pub s_trits : held.k ≤ 64 * length s_ones
  pub s_twos : length st ≡ length s_ones

-- a whole key, the word under work, packed s that was tested, and the byte table
pub record ForTakeByTable (held : Held) (ones twos s work_ones work_twos table : List ℕ) : Type 0 where
  pub whole : Whole held ones twos
  pub readable : Row ones twos
  pub work : Work held work_ones work_twos
  pub s_size : length s ≡ bytes_for held.k
  pub s_tested : packed_refusal held.k s ≡ 0
  pub is_table : table ≡ byte_table

-- a whole key, the word under work, and packed s that was tested
pub record ForTakePackedRows (held : Held) (ones twos s work_ones work_twos : List ℕ) : Type 0 where
  pub whole : Whole held ones twos
  pub readable : Row ones twos
  pub work : Work held work_ones work_twos
  pub s_size : length s ≡ bytes_for held.k
  pub s_tested : packed_refusal held.k s ≡ 0

-- a whole key, y and s in planes that were tested, and working space
pub record ForWeigh (held : Held) (ones twos y_ones y_twos s_ones s_twos wo wt : List ℕ) : Type 0 where
  pub whole : Whole held ones twos
  pub lengths : planes_lengths held (length y_ones) (length y_twos) (length s_ones) (length s_twos) ≡ 0
  pub contents : planes_contents held ones twos y_ones y_twos s_ones s_twos ≡ 0
  pub work_ones : length wo ≡ row_words held
  pub work_twos : length wt ≡ row_words held

-- a whole key that was tested, packed s that was tested, and y in the working space, 0 past its length
pub record ForWeighMade (held : Held) (ones twos s work_ones work_twos : List ℕ) : Type 0 where
  pub whole : Whole held ones twos
  pub key_tested : planes_refusal ones twos held.k (row_trits held) ≡ 0
  pub s_size : length s ≡ bytes_for held.k
  pub s_tested : packed_refusal held.k s ≡ 0
  pub work : Work held work_ones work_twos
  pub ended : (q : ℕ) → row_trits held ≤ q → trit_at work_ones work_twos q ≡ t0

-- a whole key, packed y and s that were tested, and working space
pub record ForWeighPacked (held : Held) (ones twos y s wo wt : List ℕ) : Type 0 where
  pub whole : Whole held ones twos
  pub lengths : packed_lengths held (length y) (length s) ≡ 0
  pub contents : packed_contents held ones twos y s ≡ 0
  pub work_ones : length wo ≡ row_words held
  pub work_twos : length wt ≡ row_words held
