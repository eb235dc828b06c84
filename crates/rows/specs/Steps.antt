-- What row operations ask. No rule of the paper: code is tied to it. Assumes nothing.
use Rattle.std.specs.Prelude.{◌≡◌, List, ℕ, ◌≤◌, length}
use Rattle.trits.specs.Planes.{Row}

-- what two rows of one length are: a row, and another that is added to it, taken from it or multiplied into it
pub record ForRowPair (ones twos src_ones src_twos : List ℕ) : Type 0 where
  pub row : Row ones twos
  pub source : Row src_ones src_twos
  pub size : length src_ones ≡ length ones

-- two rows of one length, not too long to count in
pub record ForDot (a_ones a_twos b_ones b_twos : List ℕ) : Type 0 where
  pub left : Row a_ones a_twos
  pub right : Row b_ones b_twos
  pub size : length b_ones ≡ length a_ones
  pub small : length a_ones ≤ 65536
