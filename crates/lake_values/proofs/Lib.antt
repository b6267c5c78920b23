pub mod FieldTies
pub mod Hashes
pub mod Joined
pub mod Kept
pub mod Loops
pub mod Standing
pub mod SameTexts
pub mod Ties
