-- The laws: the halves of a word in two rows, what a draw makes of them, the weight of two rows.
pub mod PlacedHalves
pub mod Weighed
pub mod DrawRows
