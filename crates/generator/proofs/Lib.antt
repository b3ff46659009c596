-- What the proofs of the generator cite, and samples of what it prints.
pub mod Laws
pub mod Samples
