-- The definitions that the contracts cite, in the order of the paper: packed bytes, the byte stream, the three calls, the
-- tests of `pack` in stages; last, what inner functions do.
pub mod Packed
pub mod Stream
pub mod Calls
pub mod Stages
pub mod Steps
