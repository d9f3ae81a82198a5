pub mod View
pub mod Meets
pub mod Spread
pub mod Sizes
