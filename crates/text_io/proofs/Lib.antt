pub mod Writing
pub mod Chains
