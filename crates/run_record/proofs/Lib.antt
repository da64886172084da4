mod RecordLemmas
mod KeptLemmas
mod HeardLemmas
