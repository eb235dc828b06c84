-- The laws that the functions' proofs cite; that the verdict is the one on the y so made.
pub mod Tested
pub mod Verdicts
