pub mod CheckpointTies
pub mod MapChanges
pub mod NameSets
pub mod ReplaySteps
