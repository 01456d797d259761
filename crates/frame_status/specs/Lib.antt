pub mod Statuses
pub mod Forms
