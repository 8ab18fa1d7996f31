pub mod CellLoop
pub mod HandOut
pub mod Lines
pub mod Smaller
pub mod WalkLoop
pub mod Capacities
pub mod Clear
pub mod Merely
