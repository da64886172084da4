pub mod ListLemmas
mod MemberLemmas
mod OpenLemmas
mod TreeLemmas
mod DescentLemmas
pub mod NameLemmas
mod RoomLemmas
mod GroupLemmas
mod KeptLemmas
mod TestLemmas
mod WholeLemmas
mod WaitLemmas
pub mod RuleLemmas
mod LineLemmas
mod QueueLemmas
pub mod NextLemmas
mod OrderLemmas
mod ReadyLemmas
mod ReleaseLemmas
mod FirstLemmas
mod DraftLemmas
mod BegunLemmas
mod LawLemmas
pub mod FewerLemmas
pub mod FreeLemmas
mod OwnLemmas
pub mod AdmittedLemmas
