-- Names of files, directories and operands of includes.
pub mod Candidates
pub mod Directory
pub mod Name
pub mod Path
