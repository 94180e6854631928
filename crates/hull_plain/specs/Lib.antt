pub mod Sets
pub mod ChainPairs
pub mod Drafts
pub mod ChainLocations
pub mod Bounds
pub mod Growth
pub mod Octagons
