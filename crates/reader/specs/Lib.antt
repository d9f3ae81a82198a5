pub mod Cut
pub mod Reads
