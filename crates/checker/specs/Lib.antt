-- What the weighing asks of the key, y, s and the working space.
pub mod Steps
