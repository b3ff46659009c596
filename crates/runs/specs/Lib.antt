-- The lowest run of numbers that pass a test.
pub mod LowestRun
