-- Where a root comes to, step by step.
pub mod ExploreLemmas
pub mod FileLemmas
pub mod JumpLemmas
pub mod PassLemmas
pub mod RootLemmas
pub mod RootTaskLemmas
pub mod StepLemmas
pub mod TextLemmas
pub mod WalkLemmas
pub mod WayLemmas
