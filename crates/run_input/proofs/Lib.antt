pub mod InputLemmas
mod LineLemmas
mod MomentLemmas
mod SaidLemmas
pub mod StressLemmas
mod ValueLemmas
