pub mod TextLemmas
mod WordLemmas
mod ClockLemmas
mod QuietLemmas
pub mod ShortLemmas
pub mod RunOutLemmas
pub mod TickLemmas
pub mod ToldLines
pub mod EndLemmas
pub mod GivenLemmas
pub mod StatusLemmas
pub mod GenerateLemmas
pub mod CauseLemmas
pub mod LivedLemmas
pub mod GivenUpLemmas
pub mod RunEndLemmas
pub mod LiveLemmas
pub mod LiveCauses
