-- What set-up gives.
pub mod First
