-- The call `layout`: what it answers and leaves.
pub mod Layout
pub mod inner
