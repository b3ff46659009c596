-- One line: its digits, what it says, what is kept of it, and how an answer is written.
pub mod Hexadecimal
pub mod HexadecimalLaws
pub mod Frames
pub mod Lines
pub mod LineLaws
pub mod Answers
pub mod AnswerLaws
