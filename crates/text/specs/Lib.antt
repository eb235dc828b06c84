-- The definitions that the contracts cite, in the order of the paper: fields, numbers, digits, the three forms, the answer line; then what request C-15
-- leaves as it was; last, what inner functions do.
pub mod Fields
pub mod Numbers
pub mod Digits
pub mod Forms
pub mod Answers
pub mod AsBefore
pub mod Steps
