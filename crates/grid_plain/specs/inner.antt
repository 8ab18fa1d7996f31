-- How the code goes about it: a table's lines, row by row.
pub mod Walking
pub mod Plain
