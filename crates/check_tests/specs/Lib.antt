-- The definitions of the check; then what request C-13 leaves as it was, and the tests of a check in stages.
pub mod Check
pub mod AsBefore
pub mod Stages
