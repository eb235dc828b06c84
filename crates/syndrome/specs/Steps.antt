-- What the inner functions ask. No rule of the paper: code is tied to it. Assumes nothing.
use Rattle.std.specs.Prelude.{◌≡◌, List, ℕ, ◌+◌, ◌*◌, ◌≤◌, length}
use Rattle.trits.specs.Planes.{words_for}
use Rattle.packed.specs.Stream.{kept}
use Rattle.packed.specs.Calls.{most_trits}
use Rattle.packed.specs.Steps.{byte_masks}
use Rattle.keccak.specs.Lanes.{lane_at}
use Rattle.shake.specs.Shake.{squeezed_bytes}
use Rattle.shake.specs.Steps.{ForMessage}

-- the bytes of a state's output that are looked at for m trits
abbrev pub output_for : ℕ → List (List ℕ) → List ℕ
output_for m a = squeezed_bytes (lane_at a) (m + 136)

-- a row for m trits, and a state whose output gives as many
pub record ForWriteOutput (m : ℕ) (a : List (List ℕ)) (ones twos : List ℕ) : Type 0 where
  pub small : m ≤ most_trits
  pub twos_size : length twos ≡ length ones
  pub ones_size : length ones ≡ words_for m
  pub enough : m ≤ 5 * length (kept (output_for m a))

-- and the masks
pub record ForPutOutput (masks : List ℕ) (m : ℕ) (a : List (List ℕ)) (ones twos : List ℕ) : Type 0 where
  pub is_masks : masks ≡ byte_masks
  pub row : ForWriteOutput m a ones twos

-- a row for m trits, a salt and a text
pub record ForMake (m : ℕ) (salt text ones twos : List ℕ) : Type 0 where
  pub small : m ≤ most_trits
  pub twos_size : length twos ≡ length ones
  pub ones_size : length ones ≡ words_for m
  pub message : ForMessage salt text
