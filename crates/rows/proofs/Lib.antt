pub mod Spans
pub mod Copies
