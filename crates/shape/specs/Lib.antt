pub mod Nested
pub mod Sizes
pub mod Level
pub mod Trees
pub mod Fill
pub mod Blocks
pub mod Paths
pub mod Depth
