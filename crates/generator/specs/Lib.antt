-- The generator of a rights table: the definitions that the contracts cite, and the laws that callers use of them.
pub mod Generator
pub mod GeneratorLaws
