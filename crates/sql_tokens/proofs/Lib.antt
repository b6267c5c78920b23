pub mod Ascii
pub mod Growing
pub mod Lookup
pub mod Order
pub mod Plain
pub mod Quoted
pub mod Scanning
