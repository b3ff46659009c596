-- What op 06 leaves, which its contracts cite, and the laws that its proofs use.
pub mod Allocation
