pub mod Contents
pub mod Moves
pub mod Leaves
pub mod Branches
pub mod Nodes
