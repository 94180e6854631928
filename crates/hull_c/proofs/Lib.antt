pub mod Served
pub mod InOrder
pub mod VerticesOf
pub mod Rings
pub mod Asked
pub mod OuterPoints
pub mod Written
pub mod Grown
