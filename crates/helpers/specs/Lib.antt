-- The laws of op 0b.
pub mod Helper
