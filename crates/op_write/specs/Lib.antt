pub mod Faults
pub mod Laws
pub mod Staging
pub mod Writes
