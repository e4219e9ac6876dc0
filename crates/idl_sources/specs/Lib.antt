pub mod Compile
pub mod Details
pub mod Related
pub use Rattle.idl_root.specs as idl_root
pub use Rattle.idl_related.specs as idl_related
