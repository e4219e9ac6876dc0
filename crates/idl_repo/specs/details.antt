pub mod Tree
pub mod Print
pub mod Same
