-- The laws of what every call asks of its caller.
pub mod Caller
pub mod Stack
pub mod Rights
