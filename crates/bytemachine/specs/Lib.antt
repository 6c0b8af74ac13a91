pub mod ByteMachine
pub mod Follows
pub mod Examples
