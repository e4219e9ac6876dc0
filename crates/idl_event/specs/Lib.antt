pub mod Apart
pub mod Expanding
pub mod Items
pub mod Key
pub mod Limits
pub mod Runs
pub mod Sites
pub mod Told
