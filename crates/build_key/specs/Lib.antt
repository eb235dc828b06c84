-- The definitions that the contracts cite: the key in the arranged work matrix.
pub mod Steps
