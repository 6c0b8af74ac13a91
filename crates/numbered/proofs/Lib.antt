pub mod Given
pub mod KindsGiven
