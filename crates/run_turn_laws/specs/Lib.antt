pub mod Order
pub mod TurnLines
