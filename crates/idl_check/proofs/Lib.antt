mod BaseLemmas
pub mod Faults
mod HintLemmas
pub mod PartLemmas
pub mod PragmaLaws
mod StandingLemmas
pub mod TypeLemmas
pub mod UseLemmas
pub mod Visits
pub use Rattle.idl_parse.proofs as IdlParse
