-- The laws of the released key.
pub mod Released
