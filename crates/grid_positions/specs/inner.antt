-- How the code goes about it: a table and its rows in slices.
pub mod Slices
