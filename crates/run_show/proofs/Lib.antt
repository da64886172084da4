mod LineLemmas
mod ShownLemmas
