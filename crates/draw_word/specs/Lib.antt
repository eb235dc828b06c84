-- The definitions that the contracts cite: the working space, stage after stage.
pub mod Steps
