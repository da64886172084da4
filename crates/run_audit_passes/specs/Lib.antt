pub mod Due
pub mod Texts
pub mod LimitTable
