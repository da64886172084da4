pub mod LeftLemmas
pub mod GatherLemmas
