-- Devices that give and take bytes.
pub mod Device
pub mod Memory
