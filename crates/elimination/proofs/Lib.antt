-- The laws: the pivot's row, and the rows that lose it.
pub mod Clears
