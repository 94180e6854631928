pub mod Tasks
pub mod Outcomes
pub mod Reads
pub mod Afters
pub mod Checks
pub mod Segments
pub mod Explanations
pub mod Faults
