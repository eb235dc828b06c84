-- The column rule on columns in their order; what its functions ask.
pub mod Columns
pub mod Steps
