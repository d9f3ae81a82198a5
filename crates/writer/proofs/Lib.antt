pub mod Writes
pub mod Widths
pub mod Parts
