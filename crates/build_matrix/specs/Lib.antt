-- The definitions that the contracts cite: the work matrix in planes, and its half-rows.
pub mod Steps
