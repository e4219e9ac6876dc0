pub mod Closing
pub mod Valued
pub use Rattle.idl_check.specs as idl_check
pub use Rattle.idl_check.specs.idl_parse as idl_parse
