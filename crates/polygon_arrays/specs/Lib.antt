pub mod Indices
pub mod Moved
