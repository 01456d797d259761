pub mod Summaries
pub mod Entries
pub mod Seats
