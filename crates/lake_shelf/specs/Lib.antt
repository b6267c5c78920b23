pub mod Directories
pub mod Told
