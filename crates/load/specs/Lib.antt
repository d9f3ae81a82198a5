pub mod Walking
pub mod Drawing
pub mod Reading
pub mod Loading
