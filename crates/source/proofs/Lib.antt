pub mod Upstream
pub mod OperandLaws
pub mod RunsOn
pub mod Instructions
pub mod Erase
pub mod Codes
pub mod Correspondence
