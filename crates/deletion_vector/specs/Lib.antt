pub mod Positions
pub mod Spelling
