-- The laws of a data word's bit in the written map.
pub mod Written
