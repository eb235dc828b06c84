-- The laws that the proofs cite.
pub mod After
pub mod Answered
