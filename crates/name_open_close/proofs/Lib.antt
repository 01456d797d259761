pub mod ExactMaps
pub mod NameChanges
pub mod HoldersFreed
pub mod OpenedNames
pub mod ClosedNames
