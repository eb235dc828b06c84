-- The laws behind the functions' proofs: one byte, a whole text; then what request C-15 leaves as it was.
pub mod Bytes
pub mod Fed
pub mod AsBefore
