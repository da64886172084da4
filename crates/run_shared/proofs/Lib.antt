pub mod LockedLemmas
pub mod Marked
pub mod LeftLemmas
pub mod Items
pub mod Counts
pub mod SettledLemmas
pub mod OrderLemmas
