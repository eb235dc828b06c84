-- The laws: the bits of turned columns, and rows written one after another.
pub mod Turned
pub mod Written
