-- The definitions that the contracts cite: one half of a draw.
pub mod Steps
