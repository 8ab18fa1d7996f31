-- The cell that a filler continues.
pub mod Owner
pub mod Cases
pub mod inner
