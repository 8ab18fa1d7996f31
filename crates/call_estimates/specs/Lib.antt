-- The calls `check` and `estimates`: what they answer and leave.
pub mod Estimates
pub mod inner
