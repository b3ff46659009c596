-- The version of the core.
pub mod Version
