-- The laws: the walk finds the pivots again; one place; a row filled place by place; the walk column by column; the pivots' values row by row; the products.
pub mod Walked
pub mod Puts
pub mod Filled
pub mod Supplied
pub mod Solving
pub mod Products
