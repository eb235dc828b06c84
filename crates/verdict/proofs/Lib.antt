-- The worked cases; the laws of the full word, and the verifier; the two forms of a key.
pub mod Cases
pub mod FullWord
pub mod Wavelet
