-- What the end of a build asks.
pub mod Steps
