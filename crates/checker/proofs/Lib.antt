-- The laws of the check: the product, the ones and twos, the working space; then what a host may rely on; last, computed cases.
pub mod Product
pub mod Weighed
pub mod Spaces
pub mod EndToEnd
pub mod Verdicts
mod Cases
