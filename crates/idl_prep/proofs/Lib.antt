pub mod CandidateLemmas
pub mod DirectiveLemmas
pub mod GroupLemmas
pub mod IncludeLemmas
pub mod WalkLaws
