pub mod Displays
pub mod Offsets
pub mod Values
