-- Op 0c: laws that its proofs use.
pub mod Remove
