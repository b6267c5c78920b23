pub mod Chronicles
pub mod Books
pub mod Standing
pub mod Laws
pub mod Example
