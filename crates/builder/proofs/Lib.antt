pub mod Writing
pub mod Records
pub mod Judged
pub mod Calling
pub mod Known
pub mod Checked
