pub mod Sessions
pub mod Runs
pub mod Effects
pub mod Lending
