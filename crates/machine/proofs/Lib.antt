-- Theorems that stand for themselves, applied nowhere: one-or-several, fill-stays-after, validity-stays-after,
-- formatted-is-valid-and-filled, image-on-lists, own-part-only and same-from-formatted.
pub mod Machine
pub mod Fill
pub mod Depth
pub mod OwnParts
pub mod Runs
pub mod Calls
pub mod Sessions
