pub mod Count
pub mod Write
pub mod Device
pub mod Passage
