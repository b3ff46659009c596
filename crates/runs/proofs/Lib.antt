-- The laws that callers use of the lowest run.
pub mod LowestRun
