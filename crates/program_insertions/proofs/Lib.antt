pub mod Frames
pub mod Stream
