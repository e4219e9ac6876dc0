mod WriteLemmas
mod RowLemmas
mod ToldLemmas
pub mod EntryLaws
mod NestingLaws
