-- The faults of a unit: which is the least, and where each stands.
pub mod CutLaws
pub mod FaultOrder
pub mod LeastFault
pub mod NotedLemmas
pub mod TableLaws
pub mod VisitFaults
