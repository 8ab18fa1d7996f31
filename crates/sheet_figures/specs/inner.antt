-- What the calls share: the verdict on the arguments, and a sheet opened for one table.
pub mod Early
pub mod Opened
