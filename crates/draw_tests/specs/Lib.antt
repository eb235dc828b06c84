-- The definitions that the inner contracts of a draw cite; those of the call stand in `calls`.
pub mod Steps
