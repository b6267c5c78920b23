pub mod Answering
pub mod Judging
pub mod Keys
pub mod Noting
pub mod Scoping
