pub mod Answers
pub mod Framed
pub mod Completed
pub mod Reading
