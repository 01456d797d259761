pub mod Answers
pub mod Batch
