mod ResultLemmas
mod StatisticRows
mod StatisticLemmas
mod DelayLemmas
mod NumberLemmas
mod TermLemmas
