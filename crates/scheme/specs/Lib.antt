-- The definitions, in the order of the paper: the sizes, the secret, the build of a key, one draw.
pub mod Sizes
pub mod Secret
pub mod Build
pub mod Draw
