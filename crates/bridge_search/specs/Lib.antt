pub mod Trees
pub mod Near
pub mod Search
pub mod TurnedTrees
pub mod OneWay
pub mod Listed
pub mod Leaves
pub mod Laws
