-- The call `grid`: what it answers and leaves.
pub mod Grid
pub mod inner
