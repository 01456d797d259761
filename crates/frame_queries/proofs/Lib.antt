pub mod Effects
pub mod Answering
