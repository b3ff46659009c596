-- The laws of reading a frame.
pub mod FrameLaws
pub mod FieldLaws
pub mod Lowest
