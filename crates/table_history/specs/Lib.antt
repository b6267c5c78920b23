pub mod Strikes
pub mod Histories
pub mod Stores
