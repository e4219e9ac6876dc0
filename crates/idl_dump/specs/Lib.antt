pub mod HeldRow
pub mod Row
