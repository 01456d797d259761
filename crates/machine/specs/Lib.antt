pub mod Machine
pub mod Depth
pub mod OneName
pub mod Calls
pub mod Sessions
