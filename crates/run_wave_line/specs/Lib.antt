pub mod WaveLine
