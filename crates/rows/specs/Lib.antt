-- What row operations ask.
pub mod Steps
