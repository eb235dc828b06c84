-- What the functions that gather the work matrix's columns ask and make.
pub mod Steps
