pub mod Batch
pub mod Compared
pub mod Compiled
pub mod Details
pub mod Edited
pub mod Related
pub mod Renewed
pub mod Tasks
pub mod UpToDate
pub mod Work
pub use Rattle.idl_sources.specs as idl_sources
pub use Rattle.idl_prep.specs as idl_prep
