mod OwnLemmas
mod AllLemmas
