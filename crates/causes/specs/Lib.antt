-- Why a column is 0 wide, and which entries are missing, of a table and of a sheet's tables.
pub mod Causes
pub mod Sheets
pub mod inner
