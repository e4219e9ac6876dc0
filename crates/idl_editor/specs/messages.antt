pub mod Fields
pub mod Method
pub mod Message
pub mod Params
pub mod Answers
pub mod Items
pub mod Said
