mod AskLemmas
mod FieldLemmas
mod InOrderLemmas
pub mod FrontsLemmas
mod PrintLemmas
mod RowLemmas
mod WrittenLemmas
pub mod ToldLemmas
pub mod ShownLemmas
