pub mod Knowing
pub mod Beside
pub mod Spliced
pub mod Shortened
pub mod Patching
