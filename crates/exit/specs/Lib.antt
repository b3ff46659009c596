-- The laws of op 05.
pub mod Exit
