pub mod Layout
pub mod Limits
pub mod Records
