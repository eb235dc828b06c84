-- The definitions that the contracts cite: what both calls are lent, the build, the draw; their tests in stages; both
-- calls with one gap; last, what inner functions do.
pub mod Lent
pub mod BuildCall
pub mod DrawCall
pub mod Stages
pub mod OneGap
pub mod Steps
