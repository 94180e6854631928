pub mod Drafts
pub mod KeysBetween
pub mod Looks
pub mod Touches
pub mod Farthest
pub mod Multiplicities
pub mod PlainSets
mod Growth
pub mod Covered
pub mod Octagons
