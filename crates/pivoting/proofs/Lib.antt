-- The laws: the trit that a search reads, the row that it finds, and the pivots of a block.
pub mod Numbers
pub mod Pivots
pub mod Found
