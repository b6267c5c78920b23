pub mod Aggregates
pub mod Cells
pub mod Conditions
pub mod Lending
pub mod Faults
