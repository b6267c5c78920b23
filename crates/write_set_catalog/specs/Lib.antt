pub mod Catalogs
pub mod Names
pub mod Conflicts
