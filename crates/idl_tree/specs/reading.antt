-- Reading of tokens: what is read at a place, and where reading stops.
pub mod Fault
pub mod Levels
pub mod ReadConstruction
pub mod ReadExpression
pub mod ReadInterface
pub mod ReadName
pub mod ReadType
pub mod ReadUnit
pub mod Reading
pub mod Tests
