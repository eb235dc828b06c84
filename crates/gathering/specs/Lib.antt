-- What the functions that gather columns ask and make: of a lent matrix, and of a plane's own rows.
pub mod Steps
pub mod Own
