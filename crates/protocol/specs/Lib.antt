pub mod Lists
pub mod Plan
pub mod Broken
pub mod Calls
pub mod Asked
pub mod History
pub mod Trials
pub mod Sizes
