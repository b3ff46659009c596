-- The laws of ops 01 and 02.
pub mod Thread
