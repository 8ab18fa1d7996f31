pub mod Grids
pub mod Layable
pub mod Whole
