pub mod Registers
pub mod Rules
pub mod Operands
pub mod Wide
pub mod Cells
pub mod Continuing
pub mod Memory
pub mod Bytes
