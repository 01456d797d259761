pub mod Frames
pub mod State
pub mod Commands
pub mod Refusals
pub mod Respond
pub mod Valid
pub mod Edges
pub mod Numbers
