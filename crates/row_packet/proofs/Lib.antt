pub mod Lookups
pub mod ByCell
