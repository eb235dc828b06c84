-- The walk along a lowered matrix, and what its functions ask of the grid, the order and the supplied trits.
pub mod Walks
pub mod Steps
