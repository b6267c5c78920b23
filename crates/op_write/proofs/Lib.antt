mod Leaving
mod Owned
mod Pieces
mod Staged
pub mod Unions
