-- What the handling of a line asks of its fields and of what the host holds. No rule of the paper: code is tied to it. Assumes nothing.
use Rattle.std.specs.Prelude.{◌≡◌, true, List, ℕ, ◌≤◌, length}
use Rattle.trits.specs.Planes.{zero_words}
use Rattle.text.specs.Digits.{is_digits}

-- digits of a line, and rows of zeros
pub record ForOffer (digits ones twos : List ℕ) : Type 0 where
  pub are_digits : is_digits digits ≡ true
  pub short : length digits ≤ 1024
  pub ones_zero : ones ≡ zero_words 16
  pub twos_zero : twos ≡ zero_words 16

-- digits of a line, and planes for the key
pub record ForStoreDigits (ones twos digits : List ℕ) : Type 0 where
  pub are_digits : is_digits digits ≡ true
  pub short : length digits ≤ 1024
  pub ones_size : length ones ≡ 382
  pub twos_size : length twos ≡ 382

-- digits of a line for y and s, and the planes of the key
pub record ForCheckDigits (ones twos y s : List ℕ) : Type 0 where
  pub y_digits : is_digits y ≡ true
  pub s_digits : is_digits s ≡ true
  pub y_short : length y ≤ 1024
  pub s_short : length s ≤ 1024
  pub ones_size : length ones ≡ 382
  pub twos_size : length twos ≡ 382

-- digits of a line, planes for the key, and room for the answer
pub record ForHandleRow (digits ones twos out : List ℕ) : Type 0 where
  pub are_digits : is_digits digits ≡ true
  pub short : length digits ≤ 1024
  pub ones_size : length ones ≡ 382
  pub twos_size : length twos ≡ 382
  pub room : 96 ≤ length out

-- digits of a line for y and s, the planes of the key, and room for the answer
pub record ForHandleSign (y s ones twos out : List ℕ) : Type 0 where
  pub y_digits : is_digits y ≡ true
  pub s_digits : is_digits s ≡ true
  pub y_short : length y ≤ 1024
  pub s_short : length s ≤ 1024
  pub ones_size : length ones ≡ 382
  pub twos_size : length twos ≡ 382
  pub room : 96 ≤ length out

-- a line, planes for the key, and room for the answer
pub record ForHandle (line ones twos out : List ℕ) : Type 0 where
  pub short : length line ≤ 1024
  pub ones_size : length ones ≡ 382
  pub twos_size : length twos ≡ 382
  pub room : 96 ≤ length out
