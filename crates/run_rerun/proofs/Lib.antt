mod LedgerLemmas
mod TestLemmas
mod RunLemmas
mod OutstandingLemmas
mod MemberLemmas
mod PlanLemmas
mod TestMadeLemmas
mod PlanMadeLemmas
mod ValueLemmas
mod MadeLemmas
mod LineLemmas
mod ShardLemmas
mod ShardLineLemmas
pub mod OneVerdictLemmas
