pub mod LastMove
pub mod Taken
