-- The laws behind the functions' proofs: fields, numbers, forms, a line by places, bytes written; then a line under two bounds, and printed numbers read back.
pub mod Parting
pub mod Numbers
pub mod Rows
pub mod Told
pub mod Places
pub mod Written
pub mod Lowered
pub mod ReadBack
