mod PayloadLemmas
mod FoundLemmas
mod StepLemmas
mod ReadLemmas
mod WriteLemmas
pub mod StoreLemmas
pub mod LineLemmas
mod RecordedLemmas
