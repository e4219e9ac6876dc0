-- The faults of a unit, and the least of them.
pub mod AlikeLemmas
pub mod ExpressionFaults
pub mod LeastLaws
pub mod NumberLaws
pub mod SectionLaws
