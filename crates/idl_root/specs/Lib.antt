pub mod Added
pub mod Judged
pub mod Findings
pub mod Printed
pub mod Compile
pub mod Verdict
pub mod Compiled
pub mod Closing
pub mod Places
pub mod Compared
pub mod Held
pub mod Results
pub mod Followed
pub mod Changed
pub mod Told
pub mod Turns
pub mod AsBefore
pub mod Passed
pub mod Named
pub mod NamePlaces
pub mod Details
pub use Rattle.idl_kept.specs as idl_kept
pub use Rattle.idl_root_blocks.specs as idl_root_blocks
