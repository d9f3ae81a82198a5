pub mod Kept
pub mod Chains
pub mod Left
pub mod Holding
pub mod Consistent
pub mod Guaranteed
