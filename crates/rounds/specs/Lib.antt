-- What a read and a write take.
pub mod Steps
