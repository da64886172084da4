pub mod Plan
pub mod Turns
pub mod OnWay
pub mod Generated
