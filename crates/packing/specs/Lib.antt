-- What reading packed bytes asks of rows, bytes and the byte table.
pub mod Steps
