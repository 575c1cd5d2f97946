pub mod Text
pub mod Reading
pub mod Plain
pub mod Inner
pub mod Content
pub mod Replies
pub mod Examples
