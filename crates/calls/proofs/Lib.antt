-- The laws: marks of an order, sizes in their ranges, the working space at exit, the secret's tests; what request C-20
-- changes; what C-18 leaves as it was; computed cases.
pub mod Marks
pub mod Bounds
pub mod Exits
pub mod Secrets
pub mod Stages
pub mod OneGap
pub mod Cases
