mod TextLemmas
pub mod SummaryLemmas
mod DisplayLemmas
mod StandsLemmas
mod StartLemmas
mod StartedLemmas
mod LineLemmas
