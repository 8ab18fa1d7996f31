pub mod Raises
pub mod Columns
