pub mod DepthLemmas
pub mod EventLemmas
mod KindLemmas
mod PartLemmas
mod ReadLemmas
pub mod ShallowLemmas
pub mod ToldLemmas
