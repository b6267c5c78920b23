pub mod Running
pub mod Tables
pub mod Parts
pub mod Entries
pub mod Conflicts
pub mod Commits
