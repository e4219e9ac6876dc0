-- How the sites of a unit nest, and what stands around each.
pub mod AroundLaws
pub mod BracketLemmas
pub mod ConstructionNesting
pub mod LevelSites
pub mod Nesting
pub mod Operands
pub mod Scenes
pub mod UnitNesting
