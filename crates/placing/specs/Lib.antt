-- A row that is being written, and what placing bytes in rows asks.
pub mod Steps
