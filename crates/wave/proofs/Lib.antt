-- The theorems: first, cases beside the stars; the syndrome and the secret matrix, what draws reach over
-- vectors and over calls, the verifier, end to end; demand 3 whole; last, the starred cases.
pub mod Beside
pub mod Syndrome
pub mod Reach
pub mod Verifier
pub mod Written
pub mod Cut
pub mod Passed
pub mod ReachCalls
pub mod Checks
pub mod EndToEnd
pub mod Demands
pub mod Starred
