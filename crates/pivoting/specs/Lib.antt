-- What the pivots of a block ask of the grid, and what they leave.
pub mod Steps
