-- What comes of sites, of the walk over them, and of a verdict.
pub mod ApartLaws
pub mod JudgeLemmas
pub mod NamesLemmas
pub mod RemarkLaws
pub mod SiteLaws
pub mod StepsLemmas
pub mod VerdictLaws
pub mod VisitLemmas
pub mod WalkLaws
pub mod WholeLaws
