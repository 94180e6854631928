pub mod Changed
pub mod Known
pub mod Effects
