-- The laws of op 03.
pub mod Make
