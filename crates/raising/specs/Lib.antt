-- The definitions that the contracts cite: the last pass on a stretch of columns, and what its functions ask of the grid.
pub mod Steps
