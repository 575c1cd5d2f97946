pub mod Texts
pub mod Put
pub mod Reports
pub mod Help
pub mod Adds
