pub mod Own
pub mod Left
pub mod Work
