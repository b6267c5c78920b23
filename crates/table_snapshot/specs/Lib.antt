pub mod Files
pub mod NamedFiles
pub mod Reading
pub mod Spelling
