pub mod TreesReady
pub mod NewTrees
pub mod NameEdits
