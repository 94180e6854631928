pub mod Boxes
pub mod Fronts
pub mod Ordered
pub mod Strips
pub mod Sweeping
pub mod Visits
pub mod WithinLength
