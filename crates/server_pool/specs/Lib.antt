pub mod Pooled
pub mod Passes
pub mod Placed
pub mod Rooms
