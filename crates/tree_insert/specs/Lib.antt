pub mod Trees
pub mod Ways
