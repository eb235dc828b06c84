-- The laws: the columns of places, the rows of one plane, both planes.
pub mod Columns
pub mod Planes
pub mod Both
