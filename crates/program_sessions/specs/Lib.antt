pub mod Session
pub mod Call
pub mod Stream
