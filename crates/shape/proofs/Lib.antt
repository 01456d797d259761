-- Theorems that stand for themselves, applied nowhere: delete_t-blocks, divides-all, divides-not, blocks-in-shares-two and depth-in-rule-two.
pub mod Choice
pub mod Nested
pub mod Seat
pub mod Chop
pub mod Mend
pub mod Marks
pub mod Filled
pub mod Room
pub mod Height
pub mod Splits
pub mod Descent
pub mod Steps
pub mod Instances
pub mod Examples
pub mod Cut
