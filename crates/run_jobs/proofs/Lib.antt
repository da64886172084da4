mod FaultLemmas
mod LevelLemmas
mod PlaceLemmas
mod StateLemmas
mod LedgerLemmas
mod SettleLemmas
mod TestLemmas
mod AcceptLemmas
mod RunLemmas
mod WaveLemmas
pub mod OneLemmas
mod ComesLemmas
mod DueLemmas
mod NextLemmas
mod OnceLemmas
