-- What the functions on a block's rows ask of the grid.
pub mod Steps
