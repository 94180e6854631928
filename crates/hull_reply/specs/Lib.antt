pub mod Encoded
pub mod Vertices
pub mod Coordinates
pub mod Requests
pub mod Served
pub mod Left
pub mod Storages
