pub mod Items
pub mod Froms
pub mod Joins
pub mod Sums
