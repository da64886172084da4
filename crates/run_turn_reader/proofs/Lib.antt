mod ShapeLemmas
mod HexLemmas
mod NameLemmas
mod PieceLemmas
