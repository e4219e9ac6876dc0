mod CompiledLemmas
mod FaultLemmas
mod RequestLemmas
mod ServedLemmas
