pub mod Flags
pub mod Positions
