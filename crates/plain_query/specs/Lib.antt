pub mod Databases
pub mod Faults
pub mod Keys
pub mod Lists
