mod FirstLemmas
mod NameLemmas
mod AcceptLemmas
mod ChildLemmas
mod KeptTurns
pub mod WayLemmas
mod ShortLemmas
mod CountLemmas
