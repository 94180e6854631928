pub mod Changes
pub mod Lists
pub mod Shown
pub mod Readers
pub mod Silences
pub mod ChangePublishers
pub mod Laws
