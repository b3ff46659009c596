-- How much of a buffer was read, or is written.
pub mod Counts
