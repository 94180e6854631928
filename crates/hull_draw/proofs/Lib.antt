pub mod Rows
pub mod MarkLabels
pub mod Edges
pub mod Levels
pub mod ManyScenes
pub mod Frames
pub mod Squares
