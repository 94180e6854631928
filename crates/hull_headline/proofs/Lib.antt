pub mod Good
pub mod Tickets
