-- Hexadecimal digits: the definitions that the contracts cite, and the laws that callers use of them.
pub mod Digit
pub mod DigitLaws
