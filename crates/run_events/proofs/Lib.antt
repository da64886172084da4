pub mod MomentLemmas
pub mod StatsLemmas
mod VariableLemmas
