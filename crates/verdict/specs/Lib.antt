-- The definitions: the verdict, the syndrome of a word, and what a word extends; the second form of a key; then worked cases.
pub mod Verdict
pub mod Wavelet
pub mod Cases
