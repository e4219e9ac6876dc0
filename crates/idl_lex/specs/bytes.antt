-- Bytes, and what stands before one.
pub mod Byte
pub mod ByteTable
pub mod Columns
pub mod Context
pub mod Piece
pub mod Scan
pub mod Text
