-- The call `walk`: what it refuses, what it answers, and what it leaves in the lent buffers.
pub mod Walks
pub mod inner
