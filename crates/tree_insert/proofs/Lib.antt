pub mod Descents
pub mod Siblings
pub mod Regroups
pub mod Ascents
pub mod Outcomes
pub mod WholeTrees
pub mod WaysDown
pub mod WaysUp
