-- The definitions that the contracts cite, and laws of single chains of refusals.
pub mod Fits
pub mod Found
pub mod Indexed
pub mod Resolving
pub mod Chains
