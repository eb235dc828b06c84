-- What is said of both halves together: the words of demand 3, the verifier and the way from build to
-- verdict, demand 3 whole; the paper's small secret, its starred cases, cases beside them;
-- last, what the proof of demand 3 goes through.
pub mod Terms
pub mod Verifier
pub mod DemandThree
pub mod Examples
pub mod Starred
pub mod Beside
pub mod Vectors
