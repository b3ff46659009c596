-- What the trial promises.
pub mod Trial
