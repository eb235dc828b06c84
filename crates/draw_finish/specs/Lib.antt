-- What the end of a draw asks.
pub mod Steps
