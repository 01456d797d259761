pub mod Says
pub mod Walks
pub mod Parts
