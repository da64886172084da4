pub mod Merges
pub mod KindLemmas
mod AddedLemmas
mod HearingLemmas
mod WorkedLemmas
pub mod TickLemmas
mod InMemoryLemmas
