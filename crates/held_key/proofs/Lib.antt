-- The laws of the held key: computed cases, tests in a row, what a `?` hands on, sizes, two bounds of key numbers, what request C-20 changes,
-- rows as stretches, tests that passed, rows stored; then what a host may rely on.
pub mod Cases
pub mod Ranges
pub mod Outcomes
pub mod Sizes
pub mod Bounds
pub mod Stages
pub mod Stretch
pub mod Room
pub mod Storing
pub mod Loader
pub mod Filled
