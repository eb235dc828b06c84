-- The laws: blocks of 64 words, the words and the rows of one plane, both planes; blocks of a plane's own rows.
pub mod Blocks
pub mod Planes
pub mod Both
pub mod OwnBlocks
