-- The laws that the proofs use of words that are written in runs.
pub mod Filled
