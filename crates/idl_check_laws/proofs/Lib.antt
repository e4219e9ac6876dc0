mod Faults
pub mod Fits
mod NamedTokens
pub mod NamingLaws
pub mod Nests
pub mod PragmaLaws
mod StandingLaws
pub mod ToldLaws
mod UseLaws
mod Visits
pub use Rattle.idl_check.proofs as IdlCheck
