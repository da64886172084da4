pub mod Statuses
pub mod Recorded
pub mod Kept
pub mod Answers
