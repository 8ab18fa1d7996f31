-- What the functions of this crate take and leave.
pub mod Rows
