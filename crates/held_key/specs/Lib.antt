-- The definitions of the held key, in the order of the paper: its state, beginning and storing, a key loaded; the tests of
-- `store_row` in stages; last, what inner functions ask.
pub mod Held
pub mod Store
pub mod Load
pub mod Stages
pub mod Steps
