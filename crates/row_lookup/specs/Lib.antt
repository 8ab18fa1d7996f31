-- A row of a table's grid, and where it stands.
pub mod Rows
pub mod inner
