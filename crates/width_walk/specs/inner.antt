-- A step of the walk, and the walk.
pub mod Steps
