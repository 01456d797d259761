pub mod Outcomes
pub mod Tests
