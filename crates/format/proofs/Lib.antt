pub mod Digits
pub mod Inverse
pub mod Texts
pub mod Refusals
pub mod Longest
pub mod Fronts
