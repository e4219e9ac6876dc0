pub mod ChainLemmas
pub mod ExpressionLemmas
pub mod GrammarLemmas
pub mod WaitingLemmas
