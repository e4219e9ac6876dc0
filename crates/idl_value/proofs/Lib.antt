pub mod BitLemmas
pub mod DecisionLemmas
pub mod OrderLemmas
pub mod SizeLemmas
pub mod StandingLemmas
pub mod TermEquations
pub mod WalkLemmas
