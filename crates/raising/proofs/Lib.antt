-- The laws: a stretch of the last pass; a block copied to its place; the pass, block by block.
pub mod Risen
pub mod Copies
pub mod Passes
