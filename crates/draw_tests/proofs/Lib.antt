-- The laws: the working space, the lengths, the contents, the answer.
pub mod Space
pub mod Lengths
pub mod Choices
pub mod Answers
