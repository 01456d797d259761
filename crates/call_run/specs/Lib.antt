pub mod Runs
pub mod Calls
pub mod Frames
pub mod Alike
