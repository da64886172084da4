pub mod Records
pub mod Stores
