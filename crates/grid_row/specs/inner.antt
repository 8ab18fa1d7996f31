-- How the code goes about it: what hangs in slices.
pub mod Overhangs
pub mod Carrying
pub mod Row
