-- The laws: where the block's rows stand, and one row less the block's; rows so cleared one after another.
pub mod Bring
pub mod BringRows
