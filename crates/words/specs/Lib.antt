pub mod Words
pub mod Parts
pub mod Bits
pub mod Counts
pub mod Types
pub mod Sums
pub mod Signed
pub mod Flags
