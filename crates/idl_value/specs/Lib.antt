pub mod ConstantType
pub mod Digest
pub mod Equal
pub mod Evaluation
pub mod Exact
pub mod Names
pub mod Operate
pub mod Order
pub mod Spelled
pub mod Standing
pub mod Term
pub mod Walk
pub mod integers
pub use Rattle.idl_tree.specs.idl_lex as idl_lex
pub use Rattle.idl_map.specs as idl_map
pub use Rattle.idl_tree.specs as idl_tree
