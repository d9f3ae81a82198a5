pub mod Bytes
pub mod Saved
pub mod Loaded
pub mod Promises
pub mod Samples
pub mod Walked
pub mod Savable
