-- The definitions, in reading order: vectors and matrices, orders of places, the passes of a build, elimination as it is run, and several pivots at once.
pub mod Linear
pub mod Orders
pub mod Passes
pub mod Steps
pub mod Blocks
pub mod Cases
