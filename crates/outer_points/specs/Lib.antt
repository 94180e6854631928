pub mod Chains
pub mod Extremes
pub mod Octagons
pub mod Sublists
