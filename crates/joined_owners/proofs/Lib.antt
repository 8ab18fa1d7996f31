-- What finds an entry of two grids joined, and its owner.
pub mod Finding
pub mod Owned
pub mod Tables
