-- The definitions that the contracts cite, and the laws that callers use of them.
pub mod Choice
pub mod Verdict
pub mod Below
pub mod Handle
pub mod Header
pub mod HandleLaws
pub mod Answer
pub mod Stack
pub mod StackLaws
pub mod Display
pub mod DisplayLaws
