pub mod Dispatch
pub mod Deeds
pub mod Timely
pub mod Stress
