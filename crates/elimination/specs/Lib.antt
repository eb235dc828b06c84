-- What the row operations of an elimination ask of the grid.
pub mod Steps
