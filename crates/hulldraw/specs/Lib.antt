pub mod Tasks
pub mod Faults
