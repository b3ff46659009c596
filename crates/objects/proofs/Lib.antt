-- The laws that callers use of the look-up and of the checks on an object.
pub mod Places
pub mod Statuses
pub mod Steps
pub mod Effects
