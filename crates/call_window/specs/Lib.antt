-- The call `window`: what it refuses, what it answers, and what it leaves in the lent buffers.
pub mod Window
pub mod inner
