-- What answers that are kept come to.
pub mod AnswerLemmas
pub mod CountLemmas
pub mod OperationLemmas
pub mod OthersLemmas
pub mod PlaceLemmas
pub mod QueueLemmas
pub mod StateLemmas
