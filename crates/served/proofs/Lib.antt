-- The third demand of what a host holds; and of what the reader of frames holds.
pub mod Theorem
pub mod Reader
