pub mod Filled
pub mod Edits
