pub mod Writing
pub mod Digits
pub mod Choices
pub mod Rests
pub mod Numbers
pub mod Checking
pub mod Outputs
pub mod Inputs
