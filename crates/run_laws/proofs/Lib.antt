pub mod units
pub mod told
pub mod board
