-- Cases that the stars of the paper leave open, by computation: an edit of a definition fails there, at a value. Then sizes in their ranges, and zeros.
pub mod Beside
pub mod Ranges
pub mod Zeros
