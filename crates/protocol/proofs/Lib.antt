-- Theorems that stand for themselves, applied nowhere: bytes-of-command, answer-has-name, statuses-are-one-to-twelve and lists-are-faithful.
pub mod Edges
pub mod Frames
pub mod Bools
pub mod Order
pub mod Refusals
pub mod Commands
pub mod Reasons
pub mod Respond
pub mod Accepted
pub mod Valid
pub mod Agreement
