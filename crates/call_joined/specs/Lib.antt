-- The calls that join two tables: what they refuse, what they answer, and what they leave in the lent buffers.
pub mod Joined
pub mod inner
