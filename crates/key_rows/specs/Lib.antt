-- The key in a matrix, and what the functions that write it ask and make.
pub mod Steps
