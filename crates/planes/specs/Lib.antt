-- What places and tests of two planes ask.
pub mod Steps
