mod FieldLemmas
mod FlatLemmas
mod OrderLemmas
mod PermutedLemmas
mod PlainLemmas
pub mod PrintedLemmas
pub mod TurnLemmas
