pub mod Parts
pub mod Chains
pub mod Slabs
pub mod Locations
pub mod Hands
pub mod Walks
pub mod ChainRanges
pub mod Shapes
