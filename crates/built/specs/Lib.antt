pub mod Sketch
pub mod Claims
