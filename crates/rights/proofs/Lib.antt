-- The laws that callers use of the definitions of the rights table.
pub mod Loading
