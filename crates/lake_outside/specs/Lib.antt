pub mod Counts
pub mod Plans
pub mod Ports
pub mod Streams
