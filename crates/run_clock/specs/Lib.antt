pub mod Counted
pub mod Stopwatch
pub mod Sleep
pub mod Laws
