pub mod Ends
pub mod Records
pub mod Torn
pub mod Plays
pub mod Words
pub mod Causes
pub mod Recorded
