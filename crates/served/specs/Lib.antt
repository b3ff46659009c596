-- What a host holds after any calls; and the calls of an input of frames.
pub mod Served
pub mod Input
