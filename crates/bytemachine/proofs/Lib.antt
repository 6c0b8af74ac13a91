pub mod Operands
pub mod Instructions
pub mod Runs
pub mod Follows
