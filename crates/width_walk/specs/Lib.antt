-- How the code goes about the walk: what is asked for and left in slices.
pub mod inner
