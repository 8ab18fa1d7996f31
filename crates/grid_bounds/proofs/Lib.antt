-- What a bound on the cells of a table or of a sheet says of its tables.
pub mod Ends
pub mod Entries
pub mod Tables
pub mod Bounds
pub mod BoundLoop
pub mod CellKinds
pub mod Sheets
pub mod SheetLoop
