pub mod Views
pub mod Marks
pub mod Area
pub mod Rows
pub mod Ahead
pub mod Machine
