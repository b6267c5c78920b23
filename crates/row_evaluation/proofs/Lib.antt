pub mod Filters
pub mod Folding
pub mod Limits
pub mod Loops
pub mod Parts
