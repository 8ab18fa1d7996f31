-- How the code goes about it: what is asked for and promised of slices.
pub mod Fill
