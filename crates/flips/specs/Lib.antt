-- A run of bits that is flipped: definitions that the contracts cite, and the laws that callers use of them.
pub mod Flipped
