pub mod Codes
pub mod Parts
pub mod Forms
pub mod Tests
pub mod Statuses
