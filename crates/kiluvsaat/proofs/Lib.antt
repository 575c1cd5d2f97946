pub mod Listed
pub mod Planned
pub mod Promises
pub mod Within
pub mod Laws
