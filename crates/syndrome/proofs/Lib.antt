-- The laws that the functions' proofs cite, and that callers may.
pub mod Made
