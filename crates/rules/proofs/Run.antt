pub mod Reach
pub mod Forever
pub mod Return
pub mod Dominate
