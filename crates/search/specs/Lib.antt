-- What the search knows: the clear bits of a map word, and a run before it is looked at and while it is.
pub mod ClearDown
pub mod Search
