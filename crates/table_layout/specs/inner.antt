-- How the code goes about it: what is asked for and left in slices, and a grid as its records.
pub mod Grids
pub mod Capacity
pub mod Asked
pub mod Laying
pub mod Arranging
