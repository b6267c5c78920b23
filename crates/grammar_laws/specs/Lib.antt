pub mod Definitions
pub mod Grammars
pub mod Laws
pub mod Phrases
pub mod Prediction
pub mod Reading
