-- The laws that the proofs use of the checks of ops 07 and 08.
pub mod Statuses
