-- What may be wrong at each site.
pub mod Codes
pub mod Declaring
pub mod Rules
pub mod Using
