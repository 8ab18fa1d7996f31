-- What holds of the grid of a table as records, and of its lines.
pub mod RowRecords
pub mod Cut
pub mod Ending
pub mod Making
