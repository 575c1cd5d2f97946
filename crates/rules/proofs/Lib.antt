pub mod Lists
pub mod Laws
pub mod Set
pub mod Run
pub mod Plan
pub mod Play
pub mod Settle
pub mod Promises
