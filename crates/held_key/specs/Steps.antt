-- What inner functions ask of the state and the buffers that a call has tested. Assumes nothing.
use Rattle.std.specs.Prelude.{◌≡◌, true, List, ℕ, ◌≤◌, length}
use Rattle.trits.specs.Planes.{Row, words_for}
use Rattle.packed.specs.Packed.{bytes_for, packed_refusal}
use Rattle.held_key.specs.declared.state.Held.{Held}
use Rattle.held_key.specs.Held.{sound, row_words, key_words}

-- a whole key in planes of its size
pub record Whole (h : Held) (ones twos : List ℕ) : Type 0 where
  pub is_sound : sound h ≡ true
  pub all_rows : h.rows ≡ h.k
  pub ones_size : length ones ≡ key_words h
  pub twos_size : length twos ≡ key_words h

-- the word under work: a row of the key's size that can be read
pub record Work (h : Held) (ones twos : List ℕ) : Type 0 where
  pub row : Row ones twos
  pub size : length ones ≡ row_words h

-- one row's part of the key's planes, and the packed row for it
pub record ForWritePart (m : ℕ) (row ones twos : List ℕ) : Type 0 where
  pub ones_size : length ones ≡ words_for m
  pub twos_size : length twos ≡ words_for m
  pub bytes_size : length row ≡ bytes_for m
  pub small : m ≤ 16384
  pub not_refused : packed_refusal m row ≡ 0
