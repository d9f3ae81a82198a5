pub mod Makes
pub mod Parting
pub mod Sends
pub mod Moves
