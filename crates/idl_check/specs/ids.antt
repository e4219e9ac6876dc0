-- Repository ids, and what pragmas and declarations say of them.
pub mod About
pub mod Identifying
pub mod Pragmas
pub mod Remarks
