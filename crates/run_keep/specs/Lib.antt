pub mod Outside
pub mod Minded
pub mod Entered
pub mod Listened
pub mod Halted
pub mod Rounds
