-- The definitions that the contracts cite: the halves of a word in two rows of a grid.
pub mod Steps
