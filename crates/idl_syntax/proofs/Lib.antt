pub mod Literals
pub mod Names
pub mod PragmaLemmas
pub mod Steps
pub mod Turns
pub mod VersionLemmas
