-- The call `missing`: what it refuses, what it answers, and what it leaves in the lent buffers.
pub mod Missing
pub mod inner
