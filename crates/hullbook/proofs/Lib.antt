pub mod FirstWrong
pub mod Fits
pub mod NotTaken
