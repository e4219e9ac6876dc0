-- The walk over the sites of a unit, and its verdict.
pub mod AllFaults
pub mod Held
pub mod Hint
pub mod Judging
pub mod Names
pub mod Placing
pub mod Sections
pub mod Steps
pub mod Verdict
pub mod Walk
