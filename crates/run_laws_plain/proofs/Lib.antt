mod Told
mod Cuts
mod DelayLemmas
mod OutcomeLemmas
mod StatusLemmas
