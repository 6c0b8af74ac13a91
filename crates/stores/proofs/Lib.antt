pub mod Made
pub mod OnlyStores
