pub mod Known
pub mod Patches
