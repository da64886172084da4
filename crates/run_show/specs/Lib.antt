pub mod FirstLines
pub mod Said
pub mod Shown
