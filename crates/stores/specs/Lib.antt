pub mod Stores
pub mod OnlyStores
