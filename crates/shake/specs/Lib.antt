-- SHAKE256, and what its inner functions ask and do.
pub mod Shake
pub mod Steps
pub mod Output
