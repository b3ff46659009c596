-- The answers to a whole input, and what a line answered leaves.
pub mod Output
pub mod Answered
