pub mod Audit
pub mod Needs
pub mod Stops
pub mod Told
