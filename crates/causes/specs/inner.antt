-- How the code goes about it: what is asked for and left in slices.
pub mod Telling
pub mod Hidden
pub mod Tables
