-- The call `nested`: what it refuses, what it answers, and what it leaves in the lent buffers.
pub mod Nested
pub mod inner
