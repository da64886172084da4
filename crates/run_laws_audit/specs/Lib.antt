pub mod Within
pub mod Plain
pub mod Told
pub mod Due
pub mod Split
