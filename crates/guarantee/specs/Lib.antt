pub mod Holding
pub mod Runs
pub mod Guarantee
