-- What a run of the program is, and what holds of it.
pub mod Progress
pub mod ProgressLaws
pub mod Whole
