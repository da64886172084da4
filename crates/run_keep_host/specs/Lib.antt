pub mod Lines
pub mod Offered
pub mod Ticks
