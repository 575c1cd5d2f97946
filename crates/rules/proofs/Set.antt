pub mod Multiple
pub mod Admitted
pub mod Tidy
pub mod Widths
