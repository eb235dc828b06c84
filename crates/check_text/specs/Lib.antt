-- The check of a salt and a text, and what its inner functions test.
pub mod TextCheck
pub mod Steps
