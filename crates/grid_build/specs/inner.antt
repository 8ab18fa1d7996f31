-- How the code goes about it: where a table's lines end, and the scratch that is lent.
pub mod Making
pub mod Cut
pub mod Records
