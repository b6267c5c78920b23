pub mod Lists
pub mod Sessions
pub mod Views
pub mod Steps
pub mod Turns
pub mod Passes
