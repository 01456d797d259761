pub mod Rules
pub mod Digits
pub mod Scans
pub mod Fronts
pub mod Written
pub mod Lines
