-- The laws that the functions' proofs cite, and that callers may.
pub mod Lanes
pub mod Rules
