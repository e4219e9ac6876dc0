-- What a unit without fault adds fits the facts before it.
pub mod ClosingLaws
pub mod FittingLaws
pub mod GrowingLaws
pub mod InheritedLaws
pub mod LoneLaws
pub mod OpeningLaws
pub mod ReachedLaws
pub mod SettledLaws
pub mod SoundLaws
pub mod TurnedLaws
pub mod WalkedLaws
pub mod WalkingLaws
