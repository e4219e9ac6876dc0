pub mod Apart
pub mod ids
pub mod tables
pub mod told
pub mod walk
pub use Rattle.idl_parse.specs as idl_parse
pub use Rattle.idl_dump.specs as idl_dump
