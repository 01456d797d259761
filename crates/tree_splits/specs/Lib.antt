pub mod Inserts
pub mod Entries
pub mod Grafts
pub mod Roots
