pub mod Cut
pub mod Scans
pub mod Names
pub mod Calls
