-- The permutation of FIPS 202, how the code holds a state, and what its tables hold.
pub mod Keccak
pub mod Lanes
pub mod Steps
