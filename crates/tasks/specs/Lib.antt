pub mod Refusals
pub mod Views
pub mod Slots
pub mod Timed
