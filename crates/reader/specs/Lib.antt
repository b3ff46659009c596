-- An input that comes in chunks, and what is held between two chunks of it.
pub mod Feeding
pub mod Held
pub mod HeldLaws
pub mod Program
