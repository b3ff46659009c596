-- The laws of how the shown part is found, and of what the two calls on it answer.
pub mod ViewLaws
pub mod ViewAnswers
