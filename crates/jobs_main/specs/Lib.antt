pub mod Sums
pub mod Marked
