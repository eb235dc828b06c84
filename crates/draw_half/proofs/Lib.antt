-- The laws: the first part stands for the half's matrix; the word of one half.
pub mod Firsts
pub mod HalfWords
