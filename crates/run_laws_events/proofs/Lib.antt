pub mod ByJournal
mod ByIndex
pub mod Told
mod Joined
mod RowMessages
mod PlanUnits
mod PlanMessages
mod AnswersTold
mod AnswerRows
pub mod AnswersNamed
mod InOrder
mod GoRows
mod Goes
mod RetryOrder
mod Numbered
mod Tries
mod FewRetries
mod JoinedSlots
mod Places
mod HeldSlots
mod LeastSlots
mod SlotRule
mod NextTest
mod GroupRoom
mod TestOrder
pub mod ActiveLemmas
pub mod OwnEvents
pub mod CauseEvents
pub mod CountLemmas
pub mod SlotLemmas
pub mod StartedLemmas
pub mod SlotsTold
pub mod PlanLemmas
pub mod WithinLemmas
pub mod BeginLemmas
mod GreatestLemmas
pub mod IdleLemmas
pub mod IdleBoards
mod ThreadRoom
mod NextUnits
mod AdmitLemmas
