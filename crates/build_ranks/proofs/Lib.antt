-- The laws: copies, lengths and ranks, and the first words of rows.
pub mod Copies
pub mod Lengths
pub mod Fronts
