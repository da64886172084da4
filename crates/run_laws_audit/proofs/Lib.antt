pub mod EndedLemmas
pub mod ShapeLemmas
pub mod EdgeLemmas
mod ListLemmas
pub mod KeptLemmas
mod SumLemmas
mod BoundEvents
mod JoinedLemmas
mod WholeLemmas
mod JoinedTold
pub mod SplitLemmas
mod EachLemmas
mod AroundLemmas
pub mod CancelLemmas
pub mod StatusLemmas
pub mod ReadLemmas
mod PlainLemmas
pub mod IdLemmas
mod TestLemmas
mod ScriptOrder
mod ScriptNewsTold
mod ScriptLemmas
mod RunningSeen
mod LimitLemmas
pub mod AllKept
