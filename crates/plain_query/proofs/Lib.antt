pub mod Grouping
pub mod Ordered
pub mod Ready
pub mod Runs
pub mod SameGroups
pub mod Staging
