-- The shown part: where it lies.
pub mod PlacedView
