pub mod Proper
pub mod Fresh
pub mod Reached
pub mod Carried
pub mod Acting
