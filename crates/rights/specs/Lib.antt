-- The rights table: the definitions that the contracts cite.
pub mod Kinds
pub mod Rights
