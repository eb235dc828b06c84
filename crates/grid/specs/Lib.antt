-- The definitions that the contracts cite: a matrix in planes, and the row operations on it.
pub mod Steps
