pub mod Session
pub mod Call
pub mod Stream
pub mod Examples
