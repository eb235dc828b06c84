-- The laws of the pairs, of the build and its end, and of a draw.
pub mod Pairs
pub mod Build
pub mod Ended
pub mod Draws
