-- How the code goes about it: what is asked for and left in slices.
pub mod Rows
