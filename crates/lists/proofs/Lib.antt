pub mod Items
pub mod Mapped
pub mod Joins
pub mod Measures
pub mod Sums
pub mod Froms
pub mod Cuts
pub mod Chunks
