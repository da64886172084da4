pub mod Heard
pub mod Hearing
pub mod Driven
pub mod Added
pub mod Worked
pub mod Ticked
pub mod InMemory
