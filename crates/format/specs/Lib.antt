pub mod Numbers
pub mod Lines
pub mod Sheets
pub mod Longest
pub mod Samples
