pub mod Contents
pub mod Gaps
pub mod Parts
pub mod Shares
pub mod Leaves
pub mod Branches
pub mod Scans
