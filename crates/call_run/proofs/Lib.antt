pub mod Runs
pub mod Outcomes
pub mod Cutting
pub mod Frames
pub mod Formatting
pub mod Calls
