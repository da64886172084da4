mod AnswerLemmas
mod RetryLemmas
mod SlowLemmas
mod TakenLemmas
mod TimelyLemmas
mod TriedLemmas
