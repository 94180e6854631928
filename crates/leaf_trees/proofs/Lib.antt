pub mod Heights
pub mod Rows
pub mod Multiplicities
pub mod Counting
pub mod AddedSets
pub mod ChainRanges
pub mod Returned
