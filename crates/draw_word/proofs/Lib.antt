-- The laws: the stages of a draw.
pub mod Stages
