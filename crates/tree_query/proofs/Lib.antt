pub mod Trees
pub mod Steps
pub mod Descents
pub mod Records
pub mod Counted
