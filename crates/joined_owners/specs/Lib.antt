-- The cell that a filler of two grids joined side by side continues.
pub mod inner
