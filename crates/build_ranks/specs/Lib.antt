-- The definitions that the contracts cite; those of the call stand in `calls`.
pub mod Steps
