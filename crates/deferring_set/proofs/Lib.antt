pub mod Orders
pub mod Removals
pub mod Changes
