pub mod Maps
pub mod Takes
pub mod Frees
