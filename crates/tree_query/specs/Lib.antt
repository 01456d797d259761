pub mod Good
pub mod Records
pub mod Answers
