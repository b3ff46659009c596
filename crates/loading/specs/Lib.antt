-- The laws of the load of a rights table.
pub mod Load
