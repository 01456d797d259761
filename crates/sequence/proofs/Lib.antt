-- The laws of Definition 1 are exported as a whole: some are there for readers and applied nowhere.
pub mod Alphabets
pub mod Counting
pub mod Counts
pub mod Edits
pub mod Ranks
pub mod Seams
pub mod Selects
