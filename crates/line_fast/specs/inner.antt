-- How the code goes about it: a line as it is kept, and what a comparison of bytes tells.
pub mod Briefs
pub mod Bytes
