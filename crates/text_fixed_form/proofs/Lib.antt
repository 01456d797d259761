pub mod LastColumn
pub mod Texts
pub mod Passes
