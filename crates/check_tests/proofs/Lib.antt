-- The laws of a check's tests and of its answer; what requests C-13 and C-15 leave as it was, what C-20 changes; computed cases.
pub mod Passed
pub mod Answers
pub mod AsBefore
pub mod Bounds
pub mod Stages
pub mod Cases
