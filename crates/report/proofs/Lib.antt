-- What the functions that lay out and list a sheet need of it and of its tables.
pub mod Ready
