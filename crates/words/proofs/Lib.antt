-- Laws of the definitions, over the width where there is one: what the crates above may use.
pub mod BitLaws
pub mod CountLaws
pub mod ShiftLaws
pub mod SumLaws
pub mod Differences
pub mod SignedLaws
pub mod ProductLaws
pub mod FlagLaws
pub mod PartLaws
pub mod LaneLaws
pub mod WordLaws
