-- The tables and what they leave, and what the functions ask.
pub mod Tables
pub mod Steps
