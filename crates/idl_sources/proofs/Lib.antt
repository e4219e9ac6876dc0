pub mod CompileLemmas
