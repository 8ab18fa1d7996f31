-- The call `spoken`: what it refuses, and what it returns.
pub mod Spoken
pub mod inner
