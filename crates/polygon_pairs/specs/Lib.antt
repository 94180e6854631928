pub mod Boxes
pub mod Pairs
pub mod Sweeps
