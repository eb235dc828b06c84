-- What the release of a word asks.
pub mod Steps
