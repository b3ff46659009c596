-- The part of the words that has the used bits.
pub mod Part
