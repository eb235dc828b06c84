-- The laws: cells of a matrix in planes, a row made anew word by word, row operations, one row lent or read, a row times a lent row.
pub mod Cells
pub mod Swaps
pub mod Words
pub mod Joins
pub mod RowParts
pub mod RowProducts
