-- Maps of bits: definitions that the contracts cite, and the laws that callers use of them.
pub mod Bitmap
pub mod Digits
pub mod BitmapLaws
pub mod Runs
pub mod MapWords
pub mod Marks
