pub mod Held
pub mod Replies
pub mod Laws
pub mod PointLists
pub mod Places
