-- What the tables hold, and what all contracts share.
pub mod Cut
pub mod Decode
pub mod Contract
