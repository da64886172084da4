mod CurrentLemmas
pub mod BoardLemmas
pub mod FinishLemmas
mod SeenLemmas
mod SetLemmas
pub mod BoundLemmas
mod SignalLemmas
mod TallyLemmas
