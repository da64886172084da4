pub mod InUse
pub mod Kept
pub mod Laws
pub mod Least
pub mod Lined
pub mod Names
pub mod Ordered
