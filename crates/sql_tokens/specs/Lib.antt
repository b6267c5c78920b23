pub mod Tokens
pub mod Scans
pub mod Places
pub mod Listing
pub mod Laws
