-- The laws behind the functions' proofs: words lent to the checker, one line; with them computed cases, and a line under two bounds.
pub mod Cases
pub mod Lent
pub mod Lines
pub mod Bounds
