-- The laws of reading and writing the tables, of a state that is blank, and of what a call answered.
pub mod Laws
pub mod AnsweredLaws
pub mod Blank
