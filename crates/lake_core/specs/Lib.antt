pub mod Rows
pub mod Catalogs
pub mod Lakes
pub mod Facts
pub mod Opened
pub mod Rooms
pub mod Consistency
