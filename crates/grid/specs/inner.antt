-- How the code goes about it: rows of spans numbered, and rows by positions in slices.
pub mod Numbering
pub mod Placing
