pub mod Examples
pub mod Corners
