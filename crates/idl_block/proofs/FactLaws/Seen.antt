-- What is looked at behind the facts of a block was seen: its units asked it.
pub mod AddedSees
pub mod ClosedCovers
pub mod Covers
pub mod FactCovers
pub mod KnownLaws
pub mod LookedLaws
pub mod Sees
pub mod SteppedCovers
