pub mod Entries
pub mod Heights
pub mod ChainRanges
