-- The definitions that the contracts cite, in the order of the paper: trits and vectors,
-- rows in two planes, rows of a matrix, refusals, the tests of a call in stages; last, vectors in digits.
pub mod Trit
pub mod Planes
pub mod Rows
pub mod Refusal
pub mod Stages
pub mod InDigits
