-- A block of 64 words turned, and one stage of it.
pub mod Steps
