-- The definitions that the contracts cite: a whole text; then the machine that takes a text byte by byte.
pub mod Print
pub mod Machine
