-- What the first pass asks of the grid.
pub mod Steps
