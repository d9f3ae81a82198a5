pub mod Acts
pub mod Acting
