pub mod Answers
pub mod Commands
pub mod Headings
pub mod Lines
pub mod Reading
pub mod Requests
pub mod Serving
pub mod Stopping
pub mod Streams
pub mod replies
pub use Rattle.idl_project.specs as idl_project
