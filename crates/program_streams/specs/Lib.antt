pub mod Passing
pub mod Failing
