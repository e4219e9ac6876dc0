-- What a look-up comes to, and what it asks.
pub mod DenotesOnce
pub mod Introduced
pub mod LookupLaws
pub mod Meant
pub mod Reaching
pub mod RunLemmas
pub mod TurnsLaws
pub mod Walked
