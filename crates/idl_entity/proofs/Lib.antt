pub mod IdLemmas
pub mod PathLemmas
