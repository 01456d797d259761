pub mod Removals
pub mod Mends
pub mod Trees
