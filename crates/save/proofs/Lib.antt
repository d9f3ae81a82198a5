pub mod Slots
pub mod Files
