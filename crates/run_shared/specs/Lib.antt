pub mod Adds
pub mod Receipts
pub mod Closed
pub mod Settled
pub mod Offered
pub mod Orders
