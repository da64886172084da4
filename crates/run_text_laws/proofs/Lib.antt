pub mod ObjectLemmas
mod PutLemmas
pub mod ReadLemmas
