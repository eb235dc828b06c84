-- The laws: where the rows of a block are 0, and a block that has no pivot.
pub mod Passing
