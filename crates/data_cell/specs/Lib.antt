pub mod Live
pub mod Walking
