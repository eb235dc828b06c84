-- The laws: a table's entries made one after another, and rows cleared by the tables.
pub mod Numbers
pub mod Fills
pub mod Takes
