-- The laws: half-rows, and the secret matrix that they make.
pub mod HalfRows
pub mod Placed
