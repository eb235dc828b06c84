-- The definitions of one line.
pub mod Answer
pub mod Steps
