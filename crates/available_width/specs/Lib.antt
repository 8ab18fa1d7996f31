-- The walk from a sheet's first line down: which width each line gets.
pub mod Walk
pub mod Cases
