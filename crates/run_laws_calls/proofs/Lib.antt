mod WholeLemmas
mod OwnLemmas
mod StopLemmas
pub mod ToldLemmas
mod ReasonLemmas
mod NumberLemmas
mod NewsLemmas
mod BoundLemmas
pub mod CountLemmas
mod OutcomeLemmas
mod RangeLemmas
mod WeighLemmas
mod FinishCounts
mod AnyLemmas
mod SummaryLemmas
mod ScriptLemmas
mod SuccessLemmas
mod EndingLemmas
mod EndLemmas
mod SubRunLemmas
mod StressStopLemmas
