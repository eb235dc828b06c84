-- The syndrome of a salt and a text, and what its inner functions ask.
pub mod Syndrome
pub mod Steps
