pub mod Alike
pub mod Effects
pub mod Gone
pub mod Heard
pub mod Taken
pub mod Timely
