-- The laws: computed tests of numbers, the bits of two exchanged words, the numbers of a stage, its pairs of rows, six stages.
pub mod Tests
pub mod Words
pub mod Widths
pub mod Pairs
pub mod Stages
