pub mod WaveLemmas
