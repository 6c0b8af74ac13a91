pub mod Source
pub mod Upstream
pub mod Log
pub mod Correspondence
