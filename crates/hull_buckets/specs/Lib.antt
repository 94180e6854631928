pub mod Masks
pub mod Buckets
pub mod Slices
pub mod Outwards
pub mod Walks
