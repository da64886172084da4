pub mod Facts
pub mod BytesLemmas
mod HeardLemmas
