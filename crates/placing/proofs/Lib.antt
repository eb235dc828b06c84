-- The laws of a row that is being written, both planes together.
pub mod Writing
