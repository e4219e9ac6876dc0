pub mod Told
pub mod Reasons
pub mod Follows
pub mod FirstDeclared
pub mod Related
pub mod Judged
