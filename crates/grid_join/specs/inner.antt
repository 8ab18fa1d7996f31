-- How the code goes about it: a grid read back from its records, and the parts of a row that are written one after the other.
pub mod Reading
pub mod Parts
pub mod Joins
