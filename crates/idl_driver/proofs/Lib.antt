mod LeftLemmas
mod LoadingLemmas
mod OptionLemmas
mod ParsedLemmas
pub mod ToldLemmas
mod ValueLemmas
mod WordLemmas
