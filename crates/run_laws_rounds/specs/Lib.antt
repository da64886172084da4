pub mod Requests
pub mod Queries
pub mod Elapsed
pub mod LiveCounts
pub mod Answers
pub mod UnitTurns
