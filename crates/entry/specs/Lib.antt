-- The laws of op 04.
pub mod Enter
