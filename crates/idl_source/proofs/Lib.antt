pub mod CutLemmas
pub mod DeviceLemmas
pub mod DirectoryLemmas
pub mod EntryLemmas
pub mod LinesLemmas
pub mod NormalLemmas
pub mod Ordered
pub mod PartLemmas
pub mod PathLemmas
pub mod TextLemmas
pub use Rattle.idl_base.proofs as IdlBase
