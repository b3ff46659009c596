-- The laws of an accepted entry.
pub mod Entered
