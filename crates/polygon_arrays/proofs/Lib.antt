pub mod Bits
pub mod Blocks
pub mod Chains
pub mod Maps
