pub mod Boxes
pub mod Table
pub mod Steps
pub mod Grids
pub mod Capacities
pub mod LayoutFitted
pub mod Cells
