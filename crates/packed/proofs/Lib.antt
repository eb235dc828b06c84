-- The laws that the functions' proofs cite, and that callers may; what request C-20 changes, computed cases.
pub mod Digits
pub mod Values
pub mod Keeping
pub mod Pieces
pub mod Putting
pub mod Past
pub mod Turned
pub mod RoundTrip
pub mod Stages
pub mod Cases
