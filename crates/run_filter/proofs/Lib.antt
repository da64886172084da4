pub mod GlobLemmas
pub mod TextLemmas
pub mod PartitionLemmas
pub mod GrammarLemmas
pub mod GlobTextLemmas
pub mod PredicateLemmas
pub mod HeldLemmas
pub mod RegexLemmas
