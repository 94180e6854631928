pub mod Work
pub mod Answers
pub mod Crews
pub mod Runs
pub mod Scripts
pub mod Responses
pub mod Long
pub mod Handing
