-- The laws: both passes on columns in their order leave the key.
pub mod BothPasses
