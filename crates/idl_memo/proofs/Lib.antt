pub mod Causes
pub mod ClassLaws
pub mod FreshTasks
pub mod Holding
pub mod Noting
pub mod PassLaws
pub mod Placing
pub mod ProgressLaws
pub mod QueryLaws
pub mod RunLaws
pub mod Telling
mod Walks
