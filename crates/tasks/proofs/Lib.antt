pub mod Views
pub mod OneTask
pub mod Multiple
pub mod Refusals
pub mod Positions
pub mod Slotwise
pub mod Timing
