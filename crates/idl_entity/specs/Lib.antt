pub mod DataType
pub mod Details
pub mod Digest
pub mod Entity
pub mod Identity
pub mod Kind
pub mod Order
pub mod Path
pub mod SameIdentity
pub mod Signature
pub mod Unvalued
pub use Rattle.idl_value.specs.idl_lex as idl_lex
pub use Rattle.idl_value.specs.idl_tree as idl_tree
