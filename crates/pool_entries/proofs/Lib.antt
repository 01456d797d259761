pub mod Levels
pub mod Summaries
pub mod Entries
pub mod Telling
pub mod Seats
pub mod SeatedChildren
