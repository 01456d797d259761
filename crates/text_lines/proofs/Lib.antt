pub mod Cut
pub mod Chunks
pub mod Trims
pub mod Held
pub mod Standing
pub mod Passed
pub mod Taken
pub mod Examples
