pub mod Parts
pub mod Refused
pub mod Columns
pub mod States
pub mod Bindings
pub mod Answering
pub mod Rows
pub mod Chains
