pub mod Walking
pub mod Reading
pub mod Drawing
pub mod Loading
