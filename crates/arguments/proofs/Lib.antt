-- What the lengths of lent buffers say, and what a call finds with what it was asked for.
pub mod Shorter
pub mod Opened
pub mod Above
