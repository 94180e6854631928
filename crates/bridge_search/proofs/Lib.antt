pub mod Steps
pub mod Turns
pub mod Signs
pub mod Ends
pub mod ListedTrees
pub mod Leaves
pub mod Depths
